use native.Mathlib.Omega.{arith}
use Rattle.visit.specs.Visit.{share}
use Rattle.visit.proofs.flow.share.Goals as goal

pub returns : goal.returns
unfolding share
returns c = omega (arith, c.max.ensures)
