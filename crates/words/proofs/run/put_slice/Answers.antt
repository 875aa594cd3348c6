use Rattle.words.proofs.StoreLaws.{copying-starts, copying-goes, copying-ends}
use Rattle.words.proofs.run.put_slice.Goals as goal

pub loop-i-init : goal.loop-i-init
loop-i-init g c = copying-starts _ _ _

pub loop-i-preserved : goal.loop-i-preserved
loop-i-preserved g c = copying-goes _ _ _ _ _ _ c.loop-i.invariant c.loop-i-test.true c.index-xs-i.is

pub returns : goal.returns
returns g c = copying-ends _ _ _ _ _ c.loop-i.invariant c.loop-i-test.false
