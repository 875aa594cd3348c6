use Rattle.record.specs.Size.{most_held}
use Rattle.record.proofs.TallyLaws.{Tallied, place_undelivered}
use Rattle.record.proofs.panel.undelivered.Given as goal

abbrev pub invariant-loop-i : goal.invariant-loop-i
invariant-loop-i l = Tallied (place_undelivered l.sender-items l.past l.l.safe.0) 0 most_held l.count l.i
