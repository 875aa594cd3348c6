use Rattle.record.specs.Ring.{this_ring}
use Rattle.record.proofs.ring.this_ring.Goals as goal

pub returns : goal.returns
unfolding this_ring
returns c = cc
