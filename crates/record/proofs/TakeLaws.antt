-- The oldest posts are taken: what the code's copies leave is what `taken` says.
use Prim.Native.Nat.{ℕ, ◌*◌, ◌-◌, ◌≤◌}
use mathlib.Core.Path.{◌≡◌, ◌∙◌}
use mathlib.Core.List.{List, ◌++◌, append-nil}
use native.Mathlib.Nat.{sub-zero}
use native.Mathlib.Omega.{arith}
use lib.ListN.{length, take, drop, replicate, length-drop}
use lib.Seq.{take_at, length-take-le}
use Rattle.frames.proofs.TokenLaws.{drop-replicate}
use Rattle.frames.specs.Layout.{most_content}
use Rattle.record.specs.Size.{most_posts, post_contents}
use Rattle.record.specs.Posts.{taken}
use Rattle.record.specs.declared.posts.Posts.{Posts}
use Rattle.record.proofs.Arrays.{PostsArrays}
use Rattle.record.proofs.ListLaws.{moved_up}

-- contents moved up, then cleared behind
pub contents-taken : (w m c : List ℕ) (n : ℕ)
    → length w ≡ post_contents
    → n ≤ most_posts
    → m ≡ take (most_content * (most_posts - n)) (drop (most_content * n) w) ++ drop (most_content * (most_posts - n)) w
    → c ≡ take (most_content * (most_posts - n)) m ++ replicate (most_content * (most_posts - (most_posts - n))) 0
    → c ≡ take (most_content * (most_posts - n)) (drop (most_content * n) w) ++ drop (most_content * (most_posts - n)) (replicate post_contents 0)
contents-taken w m c n size h e f =
    let long = most_content * (most_posts - n) in
    let moved = take long (drop (most_content * n) w) in
    let front : length moved ≡ long = length-take-le long (drop (most_content * n) w) (rw length-drop (omega (arith, size))) in
    let zeros : most_content * (most_posts - (most_posts - n)) ≡ post_contents - long = omega arith in
    f ∙ rw (e, take_at moved (drop long w) long front, zeros, drop-replicate {A = ℕ} post_contents long 0)

-- none is taken
pub none-taken : (p : Posts) (n : ℕ) → n ≡ 0 → p ≡ taken p n
unfolding taken
none-taken p n e = rw (e, sub-zero, append-nil p.services, append-nil p.lengths, append-nil p.contents)

pub posts-taken : (p : Posts) (n : ℕ) (services lengths contents : List ℕ)
    → PostsArrays p
    → n ≤ most_posts
    → services ≡ take (most_posts - n) (drop n p.services) ++ drop (most_posts - n) (replicate most_posts 0)
    → lengths ≡ take (most_posts - n) (drop n p.lengths) ++ drop (most_posts - n) (replicate most_posts 0)
    → contents ≡ take (most_content * (most_posts - n)) (drop (most_content * n) p.contents) ++ drop (most_content * (most_posts - n)) (replicate post_contents 0)
    → record { count = p.count - n; services = services; lengths = lengths; contents = contents } ≡ taken p n
unfolding taken
posts-taken p n services lengths contents a h e f g =
    let left : most_content * (most_posts - n) ≡ post_contents - most_content * n = omega arith in
    rw (
      e,
      moved_up p.services most_posts n a.services h,
      f,
      moved_up p.lengths most_posts n a.lengths h,
      g,
      left,
      moved_up p.contents post_contents (most_content * n) a.contents (omega arith),
    )
