-- How a call is seen, once it is known what its reply is.
use Prim.Native.Nat.{ℕ}
use mathlib.Core.Path.{◌≡◌, refl, sym, ap, subst, ◌∙◌}
use mathlib.Core.Bool.{false}
use mathlib.Core.List.{List, [], map}
use mathlib.Core.Option.{Option, none, some}
use Rattle.frames.specs.Read.{read_of}
use Rattle.frames.specs.declared.header.Header.{Header}
use Rattle.frames.specs.declared.refusal.Refusal.{Refusal}
use Rattle.frames.specs.declared.reader.Frame.{Frame}
use Rattle.frames.specs.declared.reader.Frame.TheVariants.{Message as IsMessage, Token as IsToken}
use Rattle.std.specs.Prelude.{Result, Ok, Err}
use Rattle.record.specs.Ring.{current}
use Rattle.record.specs.declared.Record.{Record}
use Rattle.station.specs.Reply.{Reply}
use Rattle.visit.specs.Deliver.{ring_header}
use Rattle.visit.specs.Within.{frames_up_to, frames_in}
use Rattle.visit.specs.Reads.{Each}
pub use Rattle.station.proofs.ReplyLaws.{asked}
use Rattle.ordering.specs.inner.Frame as seen
use Rattle.ordering.specs.inner.Station.{Station, Store}
use Rattle.ordering.specs.inner.History as cable
use Rattle.ordering.specs.inner.Run as ordered
use Rattle.ring.specs.Calls.{Call, station_of, reply_to}
use Rattle.ring.specs.History.{any_of, next_among, accepts_token, is_accepted, handed_over, said_kept}
use Rattle.ring.proofs.seen.View.{station_seen, event_seen, message_in, kept_by}
use Rattle.ring.proofs.seen.Law.{Rewrites, SeenAs}

-- `SeenAs`, of a reply
pub record SeenReply (r : Record) (c : Call) (reply : Reply) (d : ordered.Call) : Type 0 where
  pub at : ordered.station_of d ≡ station_of c
  pub station : station_seen reply.rec ≡ ordered.moved (station_seen r) d
  pub event : event_seen (ring_header (current r)) (record { call = c; reply = reply }) ≡ ordered.event (station_seen r) d
  pub ring : ring_header (current reply.rec) ≡ ring_header (current r)
  pub written : Each Rewrites (frames_in reply.frames)

pub seen_as : (r : Record) (c : Call) (reply : Reply) (d : ordered.Call) → reply_to r c ≡ reply → SeenReply r c reply d → SeenAs r c d
seen_as r c reply d e s =
    record {
      at = s.at;
      station = ap (λ (k : Reply). station_seen k.rec) e ∙ s.station;
      event = ap (λ (k : Reply). event_seen (ring_header (current r)) (record { call = c; reply = k })) e ∙ s.event;
      ring = ap (λ (k : Reply). ring_header (current k.rec)) e ∙ s.ring;
      written = subst (λ (k : Reply). Each Rewrites (frames_in k.frames)) (sym e) s.written;
    }

-- ---- nothing is written

pub no_frames : frames_in [] ≡ []
unfolding frames_in frames_up_to
no_frames = refl

pub none-accepted : (handed : Option (List ℕ)) → accepts_token handed [] ≡ false
unfolding any_of
none-accepted none = refl
none-accepted (some frame) = go (read_of frame)
  where
    go : (r : Result Frame Refusal) → next_among r [] ≡ false
    go (Err why) = refl
    go (Ok (IsMessage m)) = refl
    go (Ok (IsToken t)) = refl

-- what a call that writes nothing did
abbrev pub unwritten : Call → Reply → cable.Event
unwritten c reply =
    record {
      place = station_of c;
      kept = kept_by (said_kept reply.answer) (handed_over c);
      forwarded = none;
      written = [];
      handed = map message_in (frames_in reply.deliveries);
    }

pub event-unwritten : (ring : Header) (c : Call) (reply : Reply) → reply.frames ≡ [] → event_seen ring (record { call = c; reply = reply }) ≡ unwritten c reply
unfolding event_seen is_accepted
event-unwritten ring c reply e = rw (e, no_frames, none-accepted (handed_over c))

-- two events with the same fields
pub event-same : (place : ℕ) (kept kept' : Option seen.Message) (written : List seen.Frame) (handed handed' : List seen.Message)
    → kept ≡ kept'
    → handed ≡ handed'
    → ◌≡◌ {A = cable.Event}
    (record { place = place; kept = kept; forwarded = none; written = written; handed = handed })
    (record { place = place; kept = kept'; forwarded = none; written = written; handed = handed' })
event-same place kept kept' written handed handed' e f = rw (e, f)

-- two stations with the same fields
pub station-same : (members members' : List ℕ) (own own' level level' safe safe' delivered delivered' aru aru' last last' : ℕ) (resendable resendable' : Option seen.Token) (held held' : Store)
    → members ≡ members'
    → own ≡ own'
    → level ≡ level'
    → safe ≡ safe'
    → delivered ≡ delivered'
    → aru ≡ aru'
    → last ≡ last'
    → resendable ≡ resendable'
    → held ≡ held'
    → ◌≡◌ {A = Station}
    (record { members = members; own = own; level = level; safe = safe; delivered = delivered; aru = aru; last = last; resendable = resendable; held = held })
    (record { members = members'; own = own'; level = level'; safe = safe'; delivered = delivered'; aru = aru'; last = last'; resendable = resendable'; held = held' })
station-same members members' own own' level level' safe safe' delivered delivered' aru aru' last last' resendable resendable' held held' e₁ e₂ e₃ e₄ e₅ e₆ e₇ e₈ e₉ =
    rw (e₁, e₂, e₃, e₄, e₅, e₆, e₇, e₈, e₉)
