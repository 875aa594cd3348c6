use Rattle.record.specs.Fresh.{fresh}
use Rattle.record.proofs.fresh.fresh_head.Goals as goal

pub returns : goal.returns
unfolding fresh
returns c = rw (c.fresh_log.ensures, c.fresh_turn.ensures, c.fresh_posts.ensures)
