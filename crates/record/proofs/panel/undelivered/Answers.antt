use Prim.Native.Nat.{◌≤◌}
use native.Mathlib.Nat.{zero-add}
use native.Mathlib.Omega.{arith}
use Rattle.record.specs.inner.Head.{log_on}
use Rattle.record.proofs.TallyLaws.{tally-starts, tally-goes, tally-ends, one-most, place_undelivered, undelivered-by-place}
use Rattle.record.proofs.panel.undelivered.Goals as goal

pub loop-i-init : goal.loop-i-init
loop-i-init c = tally-starts _ _ _

pub overflow_add-count : goal.overflow_add-count
overflow_add-count c =
    let one : c.from-count.result ≤ 1 = rw (c.from-count.ensures, c.numbers_before-before.ensures) (one-most (place_undelivered c.args.l.senders c.saturating_sub-past.result c.args.l.safe.0 c.loop-i.i)) in
    omega (arith, one, c.loop-i.invariant.few, c.loop-i-test.true)

pub loop-i-preserved : goal.loop-i-preserved
loop-i-preserved c = rw (c.from-count.ensures, c.numbers_before-before.ensures) (rw zero-add at (tally-goes _ _ _ _ _ c.loop-i.invariant c.loop-i-test.true))

pub returns : goal.returns
returns c = λ contents. undelivered-by-place (log_on c.args.l contents) _ (rw c.saturating_sub-past.ensures at (tally-ends _ _ _ _ _ c.loop-i.invariant c.loop-i-test.false))
