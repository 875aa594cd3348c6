use Rattle.record.specs.Members.{foundable}
use Rattle.record.proofs.members.foundable_by.Goals as goal

pub returns : goal.returns
unfolding foundable
returns c = cc
