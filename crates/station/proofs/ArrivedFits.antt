-- Question 1's sizes suffice for every arrival.
use Prim.Native.Nat.{ℕ, ◌≤◌}
use mathlib.Core.List.{List}
use native.Mathlib.Omega.{arith}
use lib.ListN.{length}
use Rattle.frames.specs.Message.{content_of}
use Rattle.frames.specs.declared.message.Message.{Message}
use Rattle.record.specs.Ring.{current}
use Rattle.record.specs.declared.Record.{Record}
use Rattle.station.specs.Reply.{Reply}
use Rattle.visit.specs.Output.{most_frames, most_deliveries}
use Rattle.visit.specs.Message.{log_with_message}
use Rattle.visit.specs.Visit.{Visit}
use Rattle.station.specs.Arrive.{message_heard, accepted}
use Rattle.station.specs.Arrive.{arrived}
use Rattle.station.specs.EveryArrival.{ArrivedFits, ArrivedCase, refuses, hears, accepts}
use Rattle.visit.specs.Acceptable.{Hearable, Acceptable, visit}
use Rattle.visit.proofs.FrameLaws.{handed-fits, heard-writable}
use Rattle.visit.proofs.VisitReads.{accepted-fits}
use Rattle.station.proofs.ArrivedCases.{arrived-case}

abbrev Fits : Reply → Type 0
Fits reply = (length reply.frames ≤ most_frames) × (length reply.deliveries ≤ most_deliveries)

heard-fits : (r : Record) (m : Message) (content : List ℕ) → Hearable r m content → Fits (message_heard r m content)
unfolding message_heard
heard-fits r m content h =
    let l = log_with_message (current r) m content in
    (omega arith, handed-fits l (heard-writable r m content h.whole_record h.follows h.member) l.safe.0)

visit-fits : (v : Visit) → Acceptable v → Fits (accepted v)
unfolding accepted
visit-fits v a = accepted-fits v a

case-fits : (r : Record) (frame : List ℕ) (reply : Reply) → ArrivedCase r frame reply → Fits reply
case-fits r frame reply (refuses why e) = rw e (omega arith, omega arith)
case-fits r frame reply (hears m read h e) = rw e (heard-fits r m (content_of frame) h)
case-fits r frame reply (accepts t read a e) = rw e (visit-fits (visit r t) a)

pub arrived-fits : ArrivedFits
arrived-fits r frame frames deliveries = case-fits r frame (arrived r frame frames deliveries) (arrived-case r frame frames deliveries)
