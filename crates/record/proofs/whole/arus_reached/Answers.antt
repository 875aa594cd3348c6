use mathlib.Core.Path.{refl}
use Rattle.record.specs.Whole.{arus_reached}
use Rattle.record.proofs.whole.arus_reached.Goals as goal

pub returns : goal.returns
unfolding arus_reached
returns c = refl
