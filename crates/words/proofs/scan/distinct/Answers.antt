use mathlib.Core.Path.{sym, ◌∙◌}
use Rattle.std.proofs.lemmas.List.{take_rest}
use Rattle.words.proofs.ScanLaws.{scan-stops, scan-goes, scan-ends}
use Rattle.words.proofs.scan.distinct.Goals as goal

pub returns-then-not-lacks : goal.returns-then-not-lacks
returns-then-not-lacks g c =
    scan-stops _ _ _ c.loop-i.invariant _ c.loop-i-test.true c.index-s-i.is (rw take_rest at (sym c.lacks.ensures) ∙ c.if-not-lacks.true)

pub loop-i-preserved : goal.loop-i-preserved
loop-i-preserved g c =
    scan-goes _ _ _ c.loop-i.invariant _ c.loop-i-test.true c.index-s-i.is (rw take_rest at (sym c.lacks.ensures) ∙ c.if-not-lacks.false)

pub returns : goal.returns
returns g c = scan-ends _ _ _ c.loop-i.invariant c.loop-i-test.false
