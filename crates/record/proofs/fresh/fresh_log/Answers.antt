use Rattle.record.specs.Fresh.{fresh_held, fresh_log}
use Rattle.record.proofs.fresh.fresh_log.Goals as goal

pub returns : goal.returns
unfolding fresh_log fresh_held
returns c = rw c.places_of.ensures
