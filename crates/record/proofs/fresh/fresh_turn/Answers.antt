use mathlib.Core.Path.{refl}
use Rattle.record.specs.Fresh.{fresh_turn}
use Rattle.record.proofs.fresh.fresh_turn.Goals as goal

pub returns : goal.returns
unfolding fresh_turn
returns c = refl
