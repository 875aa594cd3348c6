-- A station, a frame and a call's event as ordering sees them.
use Prim.Native.Nat.{ℕ}
use mathlib.Core.Bool.{Bool, not, cond}
use mathlib.Core.List.{List, [], map}
use mathlib.Core.Option.{Option, none, some}
use Rattle.std.specs.Prelude.{Option as RustOption, Some, None, Result, Ok, Err}
use Rattle.frames.specs.Read.{read_of}
use Rattle.frames.specs.declared.header.Header.{Header}
use Rattle.frames.specs.declared.token.Token.{Token}
use Rattle.frames.specs.declared.refusal.Refusal.{Refusal}
use Rattle.frames.specs.declared.reader.Frame.{Frame}
use Rattle.frames.specs.declared.reader.Frame.TheVariants.{Message as IsMessage, Token as IsToken}
use Rattle.record.specs.Held.{Entry}
use Rattle.record.proofs.HeldLaws.{held_at}
use Rattle.record.specs.Turn.{may_resend, remembered}
use Rattle.record.specs.Ring.{current, ids}
use Rattle.record.specs.declared.log.Log.{Log}
use Rattle.record.specs.declared.turn.Turn.{Turn}
use Rattle.record.specs.declared.Record.{Record}
use Rattle.visit.specs.Deliver.{is_agreed, frame_with}
use Rattle.visit.specs.Within.{frames_in}
use Rattle.ordering.specs.inner.Frame as seen
use Rattle.ordering.specs.inner.Station.{Station, Store}
use Rattle.ordering.specs.inner.History as ordered
use Rattle.ring.specs.Newest.{last_of}
use Rattle.ring.specs.History.{Event, place, written_by, handed_over, said_kept, is_accepted, same_ring, says_safe}

-- ---- frames

abbrev pub seen_blocker : RustOption ℕ → Option ℕ
seen_blocker None = none
seen_blocker (Some id) = some id

abbrev pub seen_token : Token → List ℕ → seen.Token
seen_token t text =
    record {
      number = t.number.0;
      addressee = t.addressee;
      highest = t.highest.0;
      aru = t.aru.0;
      blocker = seen_blocker t.blocker;
      text = text;
    }

-- what is no token passes for one of zeros
abbrev no_token : List ℕ → seen.Token
no_token text = record { number = 0; addressee = 0; highest = 0; aru = 0; blocker = none; text = text }

abbrev pub token_by : List ℕ → Result Frame Refusal → seen.Token
token_by frame (Err why) = no_token frame
token_by frame (Ok (IsMessage m)) = no_token frame
token_by frame (Ok (IsToken t)) = seen_token t frame

-- the token in a frame
abbrev pub token_in : List ℕ → seen.Token
token_in frame = token_by frame (read_of frame)

-- the message in a frame
abbrev pub message_number : Result Frame Refusal → ℕ
message_number (Err why) = 0
message_number (Ok (IsMessage m)) = m.number.0
message_number (Ok (IsToken t)) = 0

unfoldable pub message_in : List ℕ → seen.Message
message_in frame = record { number = message_number (read_of frame); safe = says_safe (read_of frame); text = frame }

-- a message of the ring is a message; anything else passes for a token
abbrev pub frame_by : Header → List ℕ → Result Frame Refusal → seen.Frame
frame_by ring frame (Err why) = seen.token (token_in frame)
frame_by ring frame (Ok (IsMessage m)) = cond (same_ring ring m.header) (seen.message (message_in frame)) (seen.token (token_in frame))
frame_by ring frame (Ok (IsToken t)) = seen.token (token_in frame)

unfoldable pub frame_seen : Header → List ℕ → seen.Frame
frame_seen ring frame = frame_by ring frame (read_of frame)

-- ---- a station

abbrev pub message_of : Log → ℕ → Entry → seen.Message
message_of l n e = record { number = n; safe = not (is_agreed e); text = frame_with l n e }

abbrev pub message_at : Log → ℕ → Option Entry → Option seen.Message
message_at l n none = none
message_at l n (some e) = some (message_of l n e)

unfoldable pub store_of : Log → Store
store_of l n = message_at l n (held_at l n)

unfoldable pub resendable_of : Turn → Option seen.Token
resendable_of t = cond (may_resend t) (some (token_in (remembered t))) none

unfoldable pub station_seen : Record → Station
station_seen r =
    record {
      members = ids (current r);
      own = r.own;
      level = (current r).level.0;
      safe = (current r).safe.0;
      delivered = (current r).delivered.0;
      aru = r.turn.aru.0;
      last = r.turn.number.0;
      resendable = resendable_of r.turn;
      held = store_of (current r);
    }

-- ---- a call

abbrev pub kept_by : Bool → Option (List ℕ) → Option seen.Message
kept_by kept none = none
kept_by kept (some frame) = cond kept (some (message_in frame)) none

unfoldable pub event_seen : Header → Event → ordered.Event
event_seen ring e =
    record {
      place = place e;
      kept = kept_by (said_kept e.reply.answer) (handed_over e.call);
      forwarded = cond (is_accepted e) (some (token_in (last_of [] (written_by e)))) none;
      written = map (frame_seen ring) (written_by e);
      handed = map message_in (frames_in e.reply.deliveries);
    }
