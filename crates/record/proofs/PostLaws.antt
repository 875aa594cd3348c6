-- What waits, after a post is queued and after the oldest are taken. Theorems on the station use these and not the arrays.
use Prim.Native.Nat.{ℕ, zero, suc, ◌+◌, ◌*◌, ◌-◌, ◌<◌, ◌≤◌}
use mathlib.Core.Path.{◌≡◌, refl, sym, ap, ◌∙◌}
use mathlib.Core.List.{List, [], ◌∷◌, ◌++◌}
use native.Mathlib.Nat.{add-zero, zero-add, suc-add, add-suc}
use native.Mathlib.Omega.{arith}
use lib.ListN.{length, get_or, drop, replicate, length-set}
use lib.Seq.{length-sets, get_or-set_same, get_or-set_other, drop_at}
use Rattle.frames.specs.Layout.{most_content}
use Rattle.record.specs.Size.{most_posts}
use Rattle.record.specs.Posts.{post_at, posts_from, waiting, queued, taken}
use Rattle.record.specs.declared.posts.Posts.{Posts}
use Rattle.record.proofs.Arrays.{PostsArrays}
use Rattle.record.proofs.RangeFacts.{PostsRange}
use Rattle.record.proofs.ListLaws.{content-same, content-other, length_moved, moved-number, moved-part, Most, most-set, most-drop, most-append, most-zeros}

-- ---- sizes

pub record PostSizes (p : Posts) : Type 0 where
  pub arrays : PostsArrays p
  -- no content runs into the next place
  pub short : Most most_content p.lengths

pub post-sizes : (p : Posts) → PostsRange p → PostSizes p
post-sizes p r = record { arrays = r.arrays; short = r.lengths }

-- ---- runs of posts

pub length-posts : (p : Posts) (place n : ℕ) → length (posts_from p place n) ≡ n
unfolding posts_from
length-posts p place zero = refl
length-posts p place (suc n) = ap suc (length-posts p (suc place) n)

pub length-waiting : (p : Posts) → length (waiting p) ≡ p.count
length-waiting p = length-posts p 0 p.count

pub posts-add : (p : Posts) (place m n : ℕ) → posts_from p place (m + n) ≡ posts_from p place m ++ posts_from p (place + m) n
unfolding posts_from
posts-add p place zero n = rw (zero-add, add-zero)
posts-add p place (suc m) n = rw (suc-add, add-suc, ← suc-add) (ap (λ r. post_at p place ∷ r) (posts-add p (suc place) m n))

-- places that hold the same posts, d apart
posts-same : (p q : Posts) (d i n : ℕ) → ((k : ℕ) → k < i + n → post_at p k ≡ post_at q (d + k)) → posts_from p i n ≡ posts_from q (d + i) n
unfolding posts_from
posts-same p q d i zero same = refl
posts-same p q d i (suc n) same =
    let first = same i (omega arith) in
    let rest : posts_from p (suc i) n ≡ posts_from q (suc (d + i)) n = rw add-suc at (posts-same p q d (suc i) n (λ k k<. same k (omega arith))) in
    λ t. first t ∷ rest t

-- ---- one more

module _ (p : Posts) (service : ℕ) (content : List ℕ) (s : PostSizes p) (room : p.count < most_posts) (short : length content ≤ most_content) where
  pub sizes-queued : PostSizes (queued p service content)
  unfolding queued
  sizes-queued =
      record {
        arrays =
            record {
              services = length-set p.services p.count service ∙ s.arrays.services;
              lengths = length-set p.lengths p.count (length content) ∙ s.arrays.lengths;
              contents = length-sets p.contents (most_content * p.count) content ∙ s.arrays.contents;
            };
        short = most-set most_content p.lengths p.count (length content) s.short short;
      }

  last : post_at (queued p service content) p.count ≡ record { service = service; content = content }
  unfolding queued
  last =
      rw (
        get_or-set_same p.services p.count service 0 (omega (arith, s.arrays.services)),
        content-same p.lengths p.contents p.count content (omega (arith, s.arrays.lengths)) (omega (arith, s.arrays.contents)),
      )

  earlier : (k : ℕ) → k < p.count → post_at (queued p service content) k ≡ post_at p k
  unfolding queued
  earlier k k< =
      rw (
        get_or-set_other p.services p.count k service 0 (omega arith),
        content-other p.lengths p.contents k p.count (length content) content (omega arith) (s.short k) short,
      )

  -- it waits behind the others
  pub waiting-queued : waiting (queued p service content) ≡ waiting p ++ (record { service = service; content = content } ∷ [])
  unfolding queued posts_from
  waiting-queued =
      let q = queued p service content in
      let others : posts_from q 0 p.count ≡ waiting p = posts-same q p 0 0 p.count (λ k k<. rw zero-add (earlier k (omega arith))) in
      let behind : posts_from q (0 + p.count) 1 ≡ record { service = service; content = content } ∷ [] = rw (zero-add, last) in
      posts-add q 0 p.count 1 ∙ (λ t. others t ++ behind t)

-- ---- without the n oldest

module _ (p : Posts) (n : ℕ) (s : PostSizes p) (there : n ≤ p.count) (few : p.count ≤ most_posts) where
  pub sizes-taken : PostSizes (taken p n)
  unfolding taken
  sizes-taken =
      record {
        arrays =
            record {
              services = length_moved p.services n (omega (arith, s.arrays.services)) ∙ s.arrays.services;
              lengths = length_moved p.lengths n (omega (arith, s.arrays.lengths)) ∙ s.arrays.lengths;
              contents = length_moved p.contents (most_content * n) (omega (arith, s.arrays.contents)) ∙ s.arrays.contents;
            };
        short = most-append most_content (drop n p.lengths) (replicate n 0) (most-drop most_content n p.lengths s.short) (most-zeros most_content n);
      }

  moved : (k : ℕ) → k < p.count - n → post_at (taken p n) k ≡ post_at p (n + k)
  unfolding taken
  moved k k< =
      let services : get_or (drop n p.services ++ replicate n 0) k 0 ≡ get_or p.services (n + k) 0 = moved-number p.services n k (omega (arith, s.arrays.services)) in
      let lengths : get_or (drop n p.lengths ++ replicate n 0) k 0 ≡ get_or p.lengths (n + k) 0 = moved-number p.lengths n k (omega (arith, s.arrays.lengths)) in
      let content = moved-part (get_or p.lengths (n + k) 0) p.contents n k 0 (omega (arith, s.arrays.contents, s.short (n + k))) in
      rw (services, lengths, rw (add-zero (most_content * k), add-zero (most_content * (n + k))) at content)

  -- the others stay, in order
  pub taken-rest : posts_from p 0 n ++ waiting (taken p n) ≡ waiting p
  unfolding taken
  taken-rest =
      let rest : waiting (taken p n) ≡ posts_from p n (p.count - n) = rw add-zero at (posts-same (taken p n) p n 0 (p.count - n) (λ k k<. moved k (omega arith))) in
      let all : n + (p.count - n) ≡ p.count = omega arith in
      ap (λ r. posts_from p 0 n ++ r) rest ∙ sym (rw (zero-add n, all) at (posts-add p 0 n (p.count - n)))

  pub waiting-taken : waiting (taken p n) ≡ drop n (waiting p)
  waiting-taken = rw (← taken-rest) (sym (drop_at (posts_from p 0 n) (waiting (taken p n)) n (length-posts p 0 n)))
