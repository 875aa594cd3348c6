-- Calls on lent bytes follow one another.
use Prim.Native.Nat.{ℕ}
use mathlib.Core.Path.{◌≡◌, refl, sym, ◌∙◌, ap}
use mathlib.Core.Bool.{Bool, true, false, false≢true, ◌&&◌}
use mathlib.Core.List.{List, append-nil}
use native.Mathlib.Omega.{arith}
use lib.ListN.{length, drop_of_length-le}
use lib.Dec.{leb}
use Rattle.std.specs.Prelude.{Result, Ok, Err}
use Rattle.record.specs.Layout.{record_size}
use Rattle.record.specs.Whole.{whole}
use Rattle.record.specs.Bytes.{record_bytes}
use Rattle.record.specs.Lent.{no_record, lent}
use Rattle.record.specs.declared.Record.{Record}
use Rattle.record.proofs.LentLaws.{lent_of}
use Rattle.record.proofs.RoundTrip.{record-restored}
use Rattle.visit.specs.Output.{most_frames, most_deliveries}
use Rattle.station.specs.Answer.{is_taken}
use Rattle.station.specs.Reply.{Reply, asks, station_after}
use Rattle.station.specs.EveryReply.{Good}
use Rattle.station.specs.Post.{posted}
use Rattle.station.specs.Resend.{resent}
use Rattle.station.specs.Arrive.{arrived}
use Rattle.station.specs.Over.{found_in, found_over, post_over, arrive_over, resend_over, PostedThere, ArrivedThere, ResentThere, FoundedThere}
use Rattle.station.specs.declared.refusal.Refusal.{Refusal}
use Rattle.station.specs.declared.refusal.Refusal.TheVariants.{NoRoom, NotWhole}
use Rattle.station.specs.declared.answer.Answer.{Answer}
use Rattle.station.proofs.LentLaws.{whole_long}
use Rattle.station.proofs.ReplyGood.{posted-good, resent-good, founded-whole}
use Rattle.station.proofs.ArrivedGood.{arrived-good}

-- a call that isn't taken is refused
pub not_taken : (a : Result Answer Refusal) → is_taken a ≡ false → (why : Refusal) × (a ≡ Err why)
not_taken (Err why) e = (why, refl)
not_taken (Ok what) e = absurd (false≢true (sym e))

-- ---- a posting, an arrival or a resending that is taken was made on a whole record, so on a record's length

asks-taken : (r : Record) (question : Bool) (why : Refusal) (rest : Reply) → is_taken (asks r question why rest).answer ≡ true → question ≡ true
asks-taken r true why rest e = refl
asks-taken r false why rest e = absurd (false≢true e)

pub post-whole : (r : Record) (service : ℕ) (content : List ℕ) → is_taken (posted r service content).answer ≡ true → whole r ≡ true
unfolding posted
post-whole r service content t = asks-taken r (whole r) NotWhole _ t

pub arrive-whole : (r : Record) (frame : List ℕ) (frames deliveries : ℕ) → is_taken (arrived r frame frames deliveries).answer ≡ true → whole r ≡ true
unfolding arrived
arrive-whole r frame frames deliveries t =
    let room = asks-taken r (leb most_frames frames && leb most_deliveries deliveries) NoRoom _ t in
    asks-taken r (whole r) NotWhole _ (rw room at t)

pub resend-whole : (r : Record) (room : ℕ) → is_taken (resent r room).answer ≡ true → whole r ≡ true
unfolding resent
resend-whole r room t =
    let fits = asks-taken r (leb most_frames room) NoRoom _ t in
    asks-taken r (whole r) NotWhole _ (rw fits at t)

-- ---- so the bytes that it leaves are its record's

module _ (s : List ℕ) (reply : Reply) where
  -- a whole record is there once its bytes stand in place of a record's
  taken-there : is_taken reply.answer ≡ true → whole reply.rec ≡ true → length s ≡ record_size → lent (station_after reply s) ≡ reply.rec
  taken-there t w long =
      let restored = record-restored reply.rec w in
      rw (t, drop_of_length-le s {i = record_size} (omega (arith, long)), append-nil) (lent_of (record_bytes reply.rec) restored.1 ∙ restored.0)

  -- a refusal leaves the bytes; what is taken was asked of a whole record
  there : Good (lent s) reply → (is_taken reply.answer ≡ true → whole (lent s) ≡ true) → lent (station_after reply s) ≡ reply.rec
  there good asked = go (is_taken reply.answer) refl
    where
      go : (b : Bool) → is_taken reply.answer ≡ b → lent (station_after reply s) ≡ reply.rec
      go true t = taken-there t (good.2 (asked t)) (whole_long s (asked t))
      go false t =
          let no = not_taken reply.answer t in
          rw t (sym (ap (λ (x : Reply). x.rec) (good.0 no.0 no.1)))

pub posted-there : PostedThere
unfolding post_over
posted-there s service content = there s _ (posted-good (lent s) service content) (post-whole (lent s) service content)

pub arrived-there : ArrivedThere
unfolding arrive_over
arrived-there s frame frames deliveries = there s _ (arrived-good (lent s) frame frames deliveries) (arrive-whole (lent s) frame frames deliveries)

pub resent-there : ResentThere
unfolding resend_over
resent-there s room = there s _ (resent-good (lent s) room) (resend-whole (lent s) room)

pub founded-there : FoundedThere
unfolding found_in
founded-there s members own ring room long e = taken-there s (found_over s members own ring room) (ap is_taken e) (founded-whole no_record _ _ own ring e) long
