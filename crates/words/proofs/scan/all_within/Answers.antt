use Rattle.words.proofs.ScanLaws.{gather-starts, gather-goes, gather-ends}
use Rattle.words.proofs.scan.all_within.Goals as goal

pub loop-x-init : goal.loop-x-init
loop-x-init g c = gather-starts _ _

pub loop-x-preserved : goal.loop-x-preserved
loop-x-preserved g c = gather-goes _ _ _ _ c.loop-x.invariant _ _ c.loop-x-test.true c.x-item.is c.is_within-good.ensures

pub returns : goal.returns
returns g c = gather-ends _ _ _ _ c.loop-x.invariant c.loop-x-test.false
