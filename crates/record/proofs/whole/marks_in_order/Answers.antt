use mathlib.Core.Path.{refl}
use Rattle.record.specs.Whole.{marks_in_order}
use Rattle.record.proofs.whole.marks_in_order.Goals as goal

pub returns : goal.returns
unfolding marks_in_order
returns c = λ contents. refl
