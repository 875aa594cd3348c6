-- A resending that is taken writes the remembered token and changes nothing else.
use Rattle.std.specs.Prelude.{Ok}
use Prim.Native.Nat.{ℕ}
use mathlib.Core.Path.{◌≡◌, refl}
use mathlib.Core.Bool.{true, false≢true, not, ◌||◌}
use mathlib.Core.List.{List, [], ◌∷◌, map}
use mathlib.Core.Logic.{◌⊎◌, inl, inr}
use mathlib.Core.Option.{some}
use lib.ListN.{length}
use lib.Dec.{leb}
use Rattle.frames.specs.Read.{read_of, a_token}
use Rattle.frames.specs.declared.token.Token.{Token}
use Rattle.frames.specs.declared.refusal.Refusal.{Refusal}
use Rattle.frames.specs.declared.reader.Frame.{Frame}
use Rattle.frames.specs.declared.reader.Frame.TheVariants.{Message as IsMessage, Token as IsToken}
use Rattle.std.specs.Prelude.{Result, Ok, Err}
use Rattle.record.specs.Turn.{may_resend, remembered}
use Rattle.record.specs.Ring.{current, ids, reading_passes, token_passes}
use Rattle.record.specs.Whole.{resend_passes, whole}
use Rattle.record.specs.declared.turn.Turn.{Turn}
use Rattle.record.specs.declared.Record.{Record}
use Rattle.record.proofs.WholeFacts.{whole-good}
use Rattle.station.specs.Reply.{Reply}
use Rattle.visit.specs.Output.{most_frames}
use Rattle.station.specs.Resend.{resent}
use Rattle.visit.specs.Deliver.{ring_header}
use Rattle.visit.specs.Within.{frames_in}
use Rattle.station.specs.declared.refusal.Refusal.TheVariants.{NoRoom, NotWhole, NothingToResend}
use Rattle.station.specs.declared.answer.Answer.TheVariants.{Resent}
use Rattle.ordering.specs.inner.Run as ordered
use Rattle.ring.specs.Calls.{Call, resending, station_of}
use Rattle.ring.specs.History.{is_accepted}
use Rattle.ring.proofs.seen.View.{station_seen, frame_seen, event_seen, token_in, resendable_of}
use Rattle.ring.proofs.seen.Law.{Sight, as_quiet, as-resending}
use Rattle.ring.proofs.seen.SeenLaws.{SeenReply, seen_as, asked, no_frames}
use Rattle.ring.proofs.seen.QuietLaw.{Quiet, quiet-refused}
use Rattle.ring.proofs.seen.FrameLaws.{token-alone, frame-token, token-rewrites}

-- ---- the remembered token of a whole record reads as a token

passes-token : (ring : ℕ) (members frame : List ℕ) → token_passes ring members frame ≡ true → (t : Token) × (read_of frame ≡ a_token t)
unfolding token_passes
passes-token ring members frame e = go (read_of frame) e
  where
    go : (r : Result Frame Refusal) → reading_passes ring members r ≡ true → (t : Token) × (r ≡ a_token t)
    go (Err why) f = absurd (false≢true f)
    go (Ok (IsMessage m)) f = absurd (false≢true f)
    go (Ok (IsToken t)) f = (t, refl)

pub resendable-reads : (r : Record) → whole r ≡ true → may_resend r.turn ≡ true → (t : Token) × (read_of (remembered r.turn) ≡ a_token t)
unfolding resend_passes
resendable-reads r w resendable =
    let good : (not (may_resend r.turn) || token_passes (current r).ring.0 (ids (current r)) (remembered r.turn)) ≡ true = (whole-good r w).turn.leave in
    passes-token (current r).ring.0 (ids (current r)) (remembered r.turn) (rw resendable at good)

pub resendable-is : (t : Turn) → may_resend t ≡ true → resendable_of t ≡ some (token_in (remembered t))
unfolding resendable_of
resendable-is t e = rw e

-- ---- taken

abbrev Taken : Record → Reply
Taken r = record { answer = Ok (Resent r.turn.size); rec = r; frames = remembered r.turn; deliveries = [] }

module _ (r : Record) (place : ℕ) (frames : List ℕ) (w : whole r ≡ true) (resendable : may_resend r.turn ≡ true) where
  reads : (t : Token) × (read_of (remembered r.turn) ≡ a_token t)
  reads = resendable-reads r w resendable

  within : frames_in (remembered r.turn) ≡ remembered r.turn ∷ []
  within = token-alone (remembered r.turn) reads.0 reads.1

  writes : map (frame_seen (ring_header (current r))) (frames_in (remembered r.turn)) ≡ ordered.resend_writes (station_seen r).resendable
  unfolding station_seen
  writes = rw (within, resendable-is r.turn resendable, frame-token (ring_header (current r)) (remembered r.turn) reads.0 reads.1)

  taken-event : event_seen (ring_header (current r)) (record { call = resending place frames; reply = Taken r }) ≡ ordered.event (station_seen r) (ordered.resending place)
  unfolding event_seen is_accepted
  taken-event = rw (writes, no_frames)

  seen-taken : SeenReply r (resending place frames) (Taken r) (ordered.resending place)
  seen-taken =
      record {
        at = refl;
        station = refl;
        event = taken-event;
        ring = refl;
        written = rw within (token-rewrites (remembered r.turn) reads.0 reads.1, tt);
      }

-- ---- either way

abbrev Resends : Record → Call → Reply → Type 0
Resends r c reply = Quiet r c reply ⊎ SeenReply r c reply (ordered.resending (station_of c))

resends : (r : Record) (place : ℕ) (frames : List ℕ) → Resends r (resending place frames) (resent r (length frames))
unfolding resent
resends r place frames =
    let c = resending place frames in
    asked (Resends r c) r (leb most_frames (length frames)) NoRoom _ (inl (quiet-refused r c NoRoom)) (λ room.
    asked (Resends r c) r (whole r) NotWhole _ (inl (quiet-refused r c NotWhole)) (λ w.
    asked (Resends r c) r (may_resend r.turn) NothingToResend _ (inl (quiet-refused r c NothingToResend)) (λ resendable.
    inr (seen-taken r place frames w resendable))))

pub sight-resend : (r : Record) (place : ℕ) (frames : List ℕ) → Sight r (resending place frames)
sight-resend r place frames = go (resends r place frames)
  where
    go : Resends r (resending place frames) (resent r (length frames)) → Sight r (resending place frames)
    go (inl q) = as_quiet (seen_as r (resending place frames) (resent r (length frames)) (ordered.quiet place) refl q)
    go (inr s) = as-resending (seen_as r (resending place frames) (resent r (length frames)) (ordered.resending place) refl s)
