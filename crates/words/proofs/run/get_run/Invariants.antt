use Rattle.words.proofs.RunLaws.{Reading}
use Rattle.words.proofs.run.get_run.Given as goal

abbrev pub invariant-loop-i : goal.invariant-loop-i
invariant-loop-i g l = Reading g.W.Word.of g.W.Word.SIZE l.n l.at l.s l.initial.out l.i l.out
