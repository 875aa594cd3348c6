use Prim.Native.Nat.{◌+◌, ◌-◌}
use mathlib.Core.Path.{◌≡◌}
use native.Mathlib.Omega.{arith}
use Rattle.record.specs.Size.{most_held}
use Rattle.record.specs.inner.Head.{log_on}
use Rattle.record.proofs.CountLaws.{run-starts, run-stops, run-goes, run_ends}
use Rattle.record.proofs.RangeLaws.{numbers-tested, place-tested, numbers-below}
use Rattle.record.proofs.range.numbers_in_range.Goals as goal

pub returns-then-safe : goal.returns-then-safe
returns-then-safe c = λ contents. numbers-below (log_on c.args.l contents) (omega (arith, c.if-safe.true))

pub loop-n-init : goal.loop-n-init
loop-n-init c = run-starts _ _ _

pub returns-then-n-senders : goal.returns-then-n-senders
returns-then-n-senders c =
    let safe = c.args.l.safe.0 in
    let many : safe + most_held - safe ≡ most_held = omega arith in
    λ contents. numbers-tested (log_on c.args.l contents) _ (rw many at (run-stops _ _ _ _ c.loop-n.invariant (omega (arith, c.loop-n-test.true)) (place-tested c.loop-n.n _ _ _ c.if-n-senders.true)))

pub loop-n-preserved : goal.loop-n-preserved
loop-n-preserved c = run-goes _ _ _ _ c.loop-n.invariant (omega (arith, c.loop-n-test.true)) (place-tested c.loop-n.n _ _ _ c.if-n-senders.false)

pub returns : goal.returns
returns c =
    let safe = c.args.l.safe.0 in
    let many : safe + most_held - safe ≡ most_held = omega arith in
    λ contents. numbers-tested (log_on c.args.l contents) _ (rw many at (run_ends _ _ _ _ c.loop-n.invariant (omega (arith, c.loop-n-test.false))))
