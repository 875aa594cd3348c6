use native.Mathlib.Omega.{arith}
use Rattle.words.proofs.RunLaws.{reading-starts, reading-goes, reading-ends}
use Rattle.words.proofs.run.get_run.Goals as goal

pub loop-i-init : goal.loop-i-init
loop-i-init g c = reading-starts _ _ _ _ _ _

pub loop-i-preserved : goal.loop-i-preserved
loop-i-preserved g c = reading-goes _ _ _ _ _ _ _ _ _ c.loop-i.invariant c.loop-i-test.true (rw c.SIZE.ensures at c.get.ensures)

pub returns : goal.returns
returns g c = reading-ends _ _ _ _ _ _ _ _ c.loop-i.invariant c.loop-i-test.false (omega arith)
