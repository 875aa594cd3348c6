use Rattle.record.specs.Whole.{turn_unused_zero}
use Rattle.record.proofs.unused.turn_unused_zero.Goals as goal

pub returns : goal.returns
unfolding turn_unused_zero
returns c = c.zero_from.ensures
