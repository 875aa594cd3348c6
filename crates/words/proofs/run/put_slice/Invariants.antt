use Rattle.words.proofs.StoreLaws.{Copying}
use Rattle.words.proofs.run.put_slice.Given as goal

abbrev pub invariant-loop-i : goal.invariant-loop-i
invariant-loop-i g l = Copying l.at l.xs l.initial.out l.i l.out
