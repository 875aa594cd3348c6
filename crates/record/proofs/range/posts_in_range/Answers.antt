use mathlib.Core.Path.{◌≡◌}
use lib.ListN.{length}
use borrow.Author.Rules.{rules}
use Rattle.record.specs.Size.{most_posts}
use Rattle.record.specs.inner.Head.{posts_on}
use Rattle.record.proofs.RangeLaws.{posts-tested}
use Rattle.record.proofs.range.posts_in_range.Goals as goal

pub returns : goal.returns
returns c =
    let services : length c.args.p.services ≡ most_posts = search rules in
    let lengths : length c.args.p.lengths ≡ most_posts = search rules in
    λ waiting long. posts-tested (posts_on c.args.p waiting) services lengths long _ _ c.all_within.ensures c.all_within-2.ensures
