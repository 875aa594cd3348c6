use Rattle.record.specs.Ring.{token_members}
use Rattle.record.proofs.ring.token_members.Goals as goal

pub returns : goal.returns
unfolding token_members
returns c = cc
