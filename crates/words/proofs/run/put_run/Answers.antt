use Rattle.words.proofs.RunLaws.{storing-starts, storing-goes, storing-ends}
use Rattle.words.proofs.run.put_run.Goals as goal

pub loop-i-init : goal.loop-i-init
loop-i-init g c = storing-starts _ _ _ _ _

pub loop-i-preserved : goal.loop-i-preserved
loop-i-preserved g c = storing-goes _ _ _ _ _ _ _ _ _ c.loop-i.invariant c.loop-i-test.true c.index-xs-i.is (rw c.SIZE.ensures at c.put.ensures)

pub returns : goal.returns
returns g c = storing-ends _ _ _ _ _ _ _ c.loop-i.invariant c.loop-i-test.false
