use native.Mathlib.Nat.{zero-add}
use Rattle.record.proofs.CountLaws.{gathered-starts, gathered-goes, gathered-ends}
use Rattle.record.proofs.places.every_place.Goals as goal

pub loop-place-init : goal.loop-place-init
loop-place-init g c = λ test is. gathered-starts _ _ _

pub loop-place-preserved : goal.loop-place-preserved
loop-place-preserved g c = λ test is.
    rw (is _ _ _ c.passes-good.ensures, c.numbers_before-before.ensures)
    (rw zero-add at (gathered-goes _ _ _ _ _ (c.loop-place.invariant test is) c.loop-place-test.true))

pub returns : goal.returns
returns g c = λ test is. gathered-ends _ _ _ _ _ (c.loop-place.invariant test is) c.loop-place-test.false
