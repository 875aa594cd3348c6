use mathlib.Core.Path.{◌∙◌}
use native.Mathlib.Omega.{arith}
use Rattle.record.specs.inner.Head.{posts_on, waiting_in}
use Rattle.record.specs.Layout.{posts_at}
use Rattle.record.specs.declared.posts.Posts.{Posts}
use Rattle.record.proofs.PartLaws.{waiting_stays}
use Rattle.record.proofs.RangeFacts.{PostsRange, posts-range}
use Rattle.visit.proofs.HoldNew.{placing-goes, placing-ends}
use Rattle.visit.proofs.new_messages.place_new.Goals as goal
use Rattle.visit.proofs.new_messages.place_new.Goals.{Start}

abbrev the-posts : Start → Posts
the-posts c = posts_on c.args.posts.now (waiting_in c.args.s.now posts_at)

range : (c : Start) → PostsRange (the-posts c)
range c = posts-range (the-posts c) c.requires.1

pub bounds-posts-post : goal.bounds-posts-post
bounds-posts-post c = omega (arith, (range (goal.at.bounds-posts-post c).Start).arrays.lengths, (range (goal.at.bounds-posts-post c).Start).count, c.requires.2, c.loop-i-test.true)

pub hold_content_in-requires : goal.hold_content_in-requires
hold_content_in-requires c =
    (c.loop-i.invariant.0, omega (arith, (range (goal.at.hold_content_in-requires c).Start).count, c.requires.2, c.loop-i-test.true), (range (goal.at.hold_content_in-requires c).Start).lengths c.loop-i.i)

pub loop-i-preserved : goal.loop-i-preserved
loop-i-preserved c =
    let holds = c.hold_content_in.ensures in (
      c.hold_content_in.auto.s ∙ c.loop-i.invariant.0,
      holds.1 ∙ c.loop-i.invariant.1,
      λ l own services. placing-goes _ _ _ _ _ _ _ _ (c.loop-i.invariant.2 l own services) _ c.loop-i-test.true (rw (waiting_stays c.args.s.now c.loop-i.s c.loop-i.invariant.1) at holds.0),
    )

pub returns : goal.returns
returns c =
    (λ l own. placing-ends l own _ (the-posts (goal.at.returns c).Start) _ _ _ _ (c.loop-i.invariant.2 l own c.args.posts.now.services) c.loop-i-test.false c.requires.2, c.loop-i.invariant.1)
