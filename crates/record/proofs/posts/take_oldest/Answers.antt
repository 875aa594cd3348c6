use native.Mathlib.Omega.{arith}
use borrow.Author.Rules.{rules}
use Rattle.record.specs.inner.Head.{posts_on}
use Rattle.record.proofs.Arrays.{PostsArrays}
use Rattle.record.proofs.TakeLaws.{none-taken, contents-taken, posts-taken}
use Rattle.record.proofs.posts.take_oldest.Goals as goal
use Rattle.record.proofs.posts.take_oldest.Goals.{Start}

sizes : (c : Start) → PostsArrays (posts_on c.args.p c.args.waiting.now)
sizes c = record { services = search rules; lengths = search rules; contents = c.requires.2 }

pub get_slice-requires : goal.get_slice-requires
get_slice-requires c = omega (arith, (sizes (goal.at.get_slice-requires c).Start).services, c.requires)

pub get_slice-requires-2 : goal.get_slice-requires-2
get_slice-requires-2 c = omega (arith, (sizes (goal.at.get_slice-requires-2 c).Start).lengths, c.requires)

pub returns-then-n-eq0 : goal.returns-then-n-eq0
returns-then-n-eq0 c = none-taken _ _ c.if-n-eq0.true

pub returns : goal.returns
returns c =
    let few = c.requires in
    posts-taken (posts_on c.args.p c.args.waiting.now) c.args.n _ _ _ (sizes (goal.at.returns c).Start) (omega (arith, few))
    c.get_slice.ensures c.get_slice-2.ensures
    (contents-taken _ _ _ c.args.n few.2 (omega (arith, few)) c.move_up.ensures c.clear_from.ensures)
