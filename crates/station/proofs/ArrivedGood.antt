-- What holds of every arrival: a refusal leaves all as it was, the counts are those of the bytes, and a whole record stays whole.
use Prim.Native.Nat.{ℕ}
use mathlib.Core.Path.{◌≡◌, refl}
use mathlib.Core.List.{List}
use Rattle.std.specs.Prelude.{Result, Ok}
use Rattle.frames.specs.Message.{content_of}
use Rattle.frames.specs.declared.message.Message.{Message}
use Rattle.record.specs.declared.Record.{Record}
use Rattle.station.specs.Answer.{outcome_of}
use Rattle.station.specs.Reply.{Reply}
use Rattle.visit.specs.Message.{heard_of}
use Rattle.station.specs.Arrive.{heard_answer, message_heard}
use Rattle.visit.specs.Visit.{Visit}
use Rattle.station.specs.Arrive.{accepted}
use Rattle.station.specs.EveryReply.{Good}
use Rattle.visit.specs.Acceptable.{Acceptable, Hearable, visit}
use Rattle.station.specs.EveryArrival.{ArrivedGood, ArrivedCase, refuses, hears, accepts}
use Rattle.station.specs.Arrive.{arrived}
use Rattle.station.specs.declared.refusal.Refusal.{Refusal}
use Rattle.station.specs.declared.answer.Answer.{Answer}
use Rattle.visit.specs.declared.hearing.Hearing.{Hearing}
use Rattle.visit.specs.declared.hearing.Hearing.TheVariants.{WasHad, IsAhead, IsKept}
use Rattle.station.proofs.ReplyGood.{refused-good, taken-good}
use Rattle.station.proofs.ArrivedCases.{arrived-case}
use Rattle.visit.proofs.MessageWhole.{heard-whole}
use Rattle.visit.proofs.VisitWhole.{accepted-whole}

-- had, ahead or kept: no frame is written
record Outcomes (n : ℕ) (answer : Result Answer Refusal) : Type 0 where
  frames : (outcome_of answer).frames ≡ 0
  deliveries : (outcome_of answer).deliveries ≡ n

outcomes : (how : Hearing) (n : ℕ) → Outcomes n (Ok (heard_answer how n))
outcomes WasHad n = record { frames = refl; deliveries = refl }
outcomes IsAhead n = record { frames = refl; deliveries = refl }
outcomes IsKept n = record { frames = refl; deliveries = refl }

heard-good : (r : Record) (m : Message) (content : List ℕ) → Hearable r m content → Good r (message_heard r m content)
unfolding message_heard
heard-good r m content h =
    let t = outcomes (heard_of r m content).how (heard_of r m content).size in
    taken-good r (message_heard r m content) refl (t.frames, t.deliveries) (λ w. heard-whole r m content w h.follows h.member)

accepted-good : (v : Visit) → Acceptable v → Good v.rec (accepted v)
unfolding accepted
accepted-good v a = taken-good v.rec (accepted v) refl (refl, refl) (λ w. accepted-whole v a)

pub arrived-good : ArrivedGood
arrived-good r frame frames deliveries = go (arrived r frame frames deliveries) (arrived-case r frame frames deliveries)
  where
    go : (reply : Reply) → ArrivedCase r frame reply → Good r reply
    go reply (refuses why e) = rw e (refused-good r why)
    go reply (hears m read h e) = rw e (heard-good r m (content_of frame) h)
    go reply (accepts t read a e) = rw e (accepted-good (visit r t) a)
