use mathlib.Core.Path.{refl}
use Rattle.record.specs.Fresh.{fresh_posts}
use Rattle.record.proofs.fresh.fresh_posts.Goals as goal

pub returns : goal.returns
unfolding fresh_posts
returns c = refl
