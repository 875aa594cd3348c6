use Rattle.record.specs.inner.Head.{posts_on}
use Rattle.record.specs.declared.posts.Posts.{Posts}
use Rattle.record.proofs.WholeLaws.{posts-refused, posts-tested}
use Rattle.record.proofs.whole.posts_whole.Goals as goal
use Rattle.record.proofs.whole.posts_whole.Goals.{Start}

abbrev the-posts : Start → Posts
the-posts c = posts_on c.args.p c.args.waiting.now

pub returns-then-not-posts_in_range : goal.returns-then-not-posts_in_range
returns-then-not-posts_in_range c = posts-refused (the-posts (goal.at.returns-then-not-posts_in_range c).Start) _ (c.posts_in_range.ensures c.args.waiting.now c.told-waiting) c.if-not-posts_in_range.true-raw

pub returns : goal.returns
returns c = posts-tested (the-posts (goal.at.returns c).Start) _ (c.posts_in_range.ensures c.args.waiting.now c.told-waiting) c.if-not-posts_in_range.false-raw _ c.posts_unused_zero.ensures
