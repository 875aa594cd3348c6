use Rattle.record.specs.Held.{holds}
use Rattle.visit.specs.Message.{is_had}
use Rattle.visit.proofs.hearing.is_had.Goals as goal

pub returns : goal.returns
unfolding is_had holds
returns c = λ contents. rw c.is_held.ensures
