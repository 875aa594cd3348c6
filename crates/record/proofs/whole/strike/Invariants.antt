use Rattle.record.proofs.StrikeLaws.{Striking}
use Rattle.record.proofs.whole.strike.Given as goal

abbrev pub invariant-loop-x : goal.invariant-loop-x
invariant-loop-x l = Striking l.id l.initial.left l.x-index l.left
