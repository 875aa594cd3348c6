use Rattle.words.proofs.RunLaws.{Storing}
use Rattle.words.proofs.run.put_run.Given as goal

abbrev pub invariant-loop-i : goal.invariant-loop-i
invariant-loop-i g l = Storing g.W.Word.value g.W.Word.SIZE l.at l.xs l.initial.out l.i l.out
