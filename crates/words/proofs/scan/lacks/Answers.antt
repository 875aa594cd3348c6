use mathlib.Core.Path.{sym, ap, ◌∙◌}
use mathlib.Core.Bool.{not}
use Rattle.words.proofs.ScanLaws.{scan-starts, scan-stops, scan-goes, scan-ends}
use Rattle.words.proofs.scan.lacks.Goals as goal

pub loop-y-init : goal.loop-y-init
loop-y-init g c = scan-starts _ _

pub returns-then-eq : goal.returns-then-eq
returns-then-eq g c = scan-stops _ _ _ c.loop-y.invariant _ c.loop-y-test.true c.y-item.is (ap not (sym c.eq.ensures ∙ c.if-eq.true))

pub loop-y-preserved : goal.loop-y-preserved
loop-y-preserved g c = scan-goes _ _ _ c.loop-y.invariant _ c.loop-y-test.true c.y-item.is (ap not (sym c.eq.ensures ∙ c.if-eq.false))

pub returns : goal.returns
returns g c = scan-ends _ _ _ c.loop-y.invariant c.loop-y-test.false
