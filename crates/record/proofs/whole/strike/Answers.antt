use native.Mathlib.Omega.{arith}
use Rattle.record.proofs.StrikeLaws.{strike-starts, strike-goes, strike-ends}
use Rattle.record.proofs.whole.strike.Goals as goal

pub loop-x-init : goal.loop-x-init
loop-x-init c = strike-starts _ _

pub loop-x-preserved : goal.loop-x-preserved
loop-x-preserved c = strike-goes _ _ _ _ _ c.loop-x.invariant c.struck.ensures

pub returns : goal.returns
returns c = strike-ends _ _ _ _ c.loop-x.invariant (omega (arith, c.loop-x.invariant.long, c.loop-x-test.false))
