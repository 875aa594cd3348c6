use Prim.Native.Nat.{ℕ, ◌<◌}
use mathlib.Core.Path.{◌≡◌, ap}
use native.Mathlib.Omega.{arith}
use lib.ListN.{get_or}
use borrow.Author.Rules.{rules}
use Rattle.record.specs.Bytes.{record_of}
use Rattle.record.specs.declared.posts.Posts.{Posts}
use Rattle.record.proofs.PostLent.{posts-there, post-put}
use Rattle.record.proofs.bytes.put_post.Goals as goal

pub queue_on-after-requires : goal.queue_on-after-requires
queue_on-after-requires c =
    let counts : c.get_posts_head-before.result.count ≡ (record_of c.args.s.now).posts.count = ap (λ (p : Posts). p.count) (posts-there c.args.s.now c.get_posts_head-before.result c.requires.0 c.get_posts_head-before.ensures) in
    (omega (arith, counts, c.requires.1), c.requires.2, search rules)

pub returns : goal.returns
returns c =
    let bytes : (i : ℕ) → get_or c.args.s.now i 0 < 256 = (λ i. omega (arith, c.slice_known-1.given i)) in
    post-put _ _ _ _ _ _ _ bytes c.requires.0 (search rules) c.get_posts_head-before.ensures c.queue_on-after.ensures c.put_posts_head.ensures
