use native.Mathlib.Omega.{arith}
use Rattle.record.proofs.RangeFacts.{PostsRange, posts-range}
use Rattle.visit.specs.Visit.{Visit, posts}
use Rattle.visit.specs.inner.Steps.{visit_of}
use Rattle.visit.proofs.HoldNew.{heading-goes, heading-ends}
use Rattle.visit.proofs.VisitFacts.{facts}
use Rattle.visit.proofs.token_visit.TokenVisit.hold_new.Goals as goal
use Rattle.visit.proofs.token_visit.TokenVisit.hold_new.Goals.{Start}

abbrev the-visit : Start → Visit
the-visit c = visit_of c.args.self.now

range : (c : Start) → PostsRange (posts (the-visit c))
range c = posts-range (posts (the-visit c)) (facts (the-visit c) c.args.self.now.acceptable).posts

pub bounds-posts-post : goal.bounds-posts-post
bounds-posts-post c =
    let r = range (goal.at.bounds-posts-post c).Start in
    omega (arith, r.arrays.services, r.count, c.requires.0)

pub bounds-posts-post-in-loop-i : goal.bounds-posts-post-in-loop-i
bounds-posts-post-in-loop-i c =
    let r = range (goal.at.bounds-posts-post-in-loop-i c).Start in
    omega (arith, r.arrays.lengths, r.count, c.requires.0)

pub loop-i-preserved : goal.loop-i-preserved
loop-i-preserved c =
    heading-goes _ _ _ _ _ _ _ _ c.loop-i.invariant c.loop-i-test.true (range (goal.at.loop-i-preserved c).Start) c.requires.0

pub returns : goal.returns
returns c = heading-ends _ _ _ _ _ _ _ _ c.loop-i.invariant c.loop-i-test.false c.requires.0
