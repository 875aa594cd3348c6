-- New messages are held one after another: what is left of the posts decides the whole. First the head with them, then their contents.
use Prim.Native.Nat.{ℕ, zero, suc, ◌+◌, ◌*◌, ◌-◌, ◌<◌, ◌≤◌}
use mathlib.Core.Path.{◌≡◌, refl, sym, ap, ◌∙◌}
use mathlib.Core.List.{List, [], ◌∷◌}
use native.Mathlib.Omega.{arith}
use lib.ListN.{length, get_or, set, take, drop, length-drop}
use lib.Seq.{sets, take_at, length-take-le}
use Rattle.frames.specs.Layout.{most_content}
use Rattle.record.specs.inner.Head.{log_on, head_of, head_with}
use Rattle.record.specs.Held.{place_of, held_with}
use Rattle.record.specs.Posts.{Post, post_at, posts_from, waiting}
use Rattle.record.specs.declared.head.LogHead.{LogHead}
use Rattle.record.specs.declared.posts.Posts.{Posts}
use Rattle.record.proofs.PostLaws.{length-posts, posts-add}
use Rattle.record.proofs.RangeFacts.{PostsRange}
use Rattle.visit.specs.Visit.{with_sent}

-- the n oldest
oldest : (p : Posts) (n : ℕ) → n ≤ p.count → take n (waiting p) ≡ posts_from p 0 n
oldest p n h =
    let all : n + (p.count - n) ≡ p.count = omega arith in
    let split = rw all at (posts-add p 0 n (p.count - n)) in
    rw split (take_at (posts_from p 0 n) (posts_from p (0 + n) (p.count - n)) n (length-posts p 0 n))

-- n posts in these arrays
abbrev pub posts_in : ℕ → List ℕ → List ℕ → List ℕ → Posts
posts_in n services lengths contents = record { count = n; services = services; lengths = lengths; contents = contents }

-- how many they are does not alter one of them
posts-same : (p : Posts) (n i k : ℕ) → posts_from (posts_in n p.services p.lengths p.contents) i k ≡ posts_from p i k
unfolding posts_from
posts-same p n i zero = refl
posts-same p n i (suc k) = ap (λ rest. post_at p i ∷ rest) (posts-same p n (suc i) k)

-- a post's content is as long as the posts say
content-long : (p : Posts) (i : ℕ) → PostsRange p → i < p.count → length (post_at p i).content ≡ get_or p.lengths i 0
content-long p i range h =
    length-take-le (get_or p.lengths i 0) (drop (most_content * i) p.contents) (rw length-drop (omega (arith, range.arrays.contents, range.lengths i, range.count)))

-- the next post, its number and what is left, as the code counts and as the definitions do
record Next (n highest i : ℕ) : Type 0 where
  left : n - i ≡ suc (n - (i + 1))
  post : i + 1 ≡ suc i
  number : highest + i + 1 ≡ suc (highest + i)
  highest' : highest + suc i ≡ suc (highest + i)

next : (n highest i : ℕ) → i < n → Next n highest i
next n highest i more = record { left = omega arith; post = omega arith; number = omega arith; highest' = omega arith }

-- ---- the head

-- the head once a post is held
abbrev after : LogHead → ℕ → ℕ → Post → LogHead
after l own place p = head_with l l.level l.safe l.delivered (set l.senders place own) (set l.services place p.service) (set l.lengths place (length p.content))

-- no content bears on it
new-head : (l : LogHead) (c c' : List ℕ) (own highest : ℕ) (ps : List Post) → head_of (with_sent (log_on l c) own highest ps) ≡ head_of (with_sent (log_on l c') own highest ps)
unfolding with_sent held_with
new-head l c c' own highest [] = refl
new-head l c c' own highest (p ∷ ps) =
    let place = place_of (suc highest) in
    new-head (after l own place p) (sets c (most_content * place) p.content) (sets c' (most_content * place) p.content) own (suc highest) ps

-- of the n oldest posts the first i have their places in the head
pub record Heading (first : LogHead) (contents : List ℕ) (own highest : ℕ) (p : Posts) (n : ℕ) (l : LogHead) (i : ℕ) : Type 0 where
  pub within : i ≤ n
  pub rest : head_of (with_sent (log_on l contents) own (highest + i) (posts_from p i (n - i))) ≡ head_of (with_sent (log_on first contents) own highest (posts_from p 0 n))

module _ (first : LogHead) (contents : List ℕ) (own highest : ℕ) (p : Posts) (n : ℕ) where
  module _ (l : LogHead) (i : ℕ) (so_far : Heading first contents own highest p n l i) where
    pub heading-goes : i < n
        → PostsRange p
        → n ≤ p.count
        → Heading first contents own highest p n
        (head_with l l.level l.safe l.delivered (set l.senders (place_of (highest + i + 1)) own) (set l.services (place_of (highest + i + 1)) (get_or p.services i 0)) (set l.lengths (place_of (highest + i + 1)) (get_or p.lengths i 0)))
        (i + 1)
    unfolding with_sent posts_from held_with
    heading-goes more range few =
        let k = next n highest i more in
        let place = place_of (suc (highest + i)) in
        let e = post_at p i in
        let long : length e.content ≡ get_or p.lengths i 0 = content-long p i range (omega arith) in
        let same = new-head (after l own place e) (sets contents (most_content * place) e.content) contents own (suc (highest + i)) (posts_from p (suc i) (n - suc i)) in
        record { within = omega arith; rest = rw (k.number, k.post, k.highest', ← long) (sym same ∙ (rw (k.left, k.post) at so_far.rest)) }

pub heading-ends : (first : LogHead) (contents : List ℕ) (own highest : ℕ) (p : Posts) (n : ℕ) (l : LogHead) (i : ℕ)
    → Heading first contents own highest p n l i
    → n ≤ i
    → n ≤ p.count
    → l ≡ head_of (with_sent (log_on first contents) own highest (take n (waiting p)))
unfolding with_sent posts_from
heading-ends first contents own highest p n l i so_far done few =
    let left : n - i ≡ zero = omega arith in
    rw (oldest p n few) (rw left at so_far.rest)

-- ---- the contents

-- the head has no bearing on them
new-contents : (l l' : LogHead) (c : List ℕ) (own highest : ℕ) (ps : List Post)
    → (with_sent (log_on l c) own highest ps).held.contents ≡ (with_sent (log_on l' c) own highest ps).held.contents
unfolding with_sent held_with
new-contents l l' c own highest [] = refl
new-contents l l' c own highest (p ∷ ps) =
    let place = place_of (suc highest) in
    new-contents (after l own place p) (after l' own place p) (sets c (most_content * place) p.content) own (suc highest) ps

-- of the n oldest posts the contents of the first i stand in their places
pub record Placing (l : LogHead) (own highest : ℕ) (p : Posts) (n : ℕ) (before contents : List ℕ) (i : ℕ) : Type 0 where
  pub within : i ≤ n
  pub rest : (with_sent (log_on l contents) own (highest + i) (posts_from p i (n - i))).held.contents
      ≡ (with_sent (log_on l before) own highest (posts_from p 0 n)).held.contents

module _ (l : LogHead) (own highest : ℕ) (p : Posts) (n : ℕ) (before : List ℕ) where
  module _ (contents : List ℕ) (i : ℕ) (so_far : Placing l own highest p n before contents i) where
    pub placing-goes : (contents' : List ℕ)
        → i < n
        → contents' ≡ sets contents (most_content * place_of (highest + i + 1)) (post_at p i).content
        → Placing l own highest p n before contents' (i + 1)
    unfolding with_sent posts_from held_with
    placing-goes contents' more e =
        let k = next n highest i more in
        let place = place_of (suc (highest + i)) in
        let x = post_at p i in
        let same = new-contents l (after l own place x) (sets contents (most_content * place) x.content) own (suc (highest + i)) (posts_from p (suc i) (n - suc i)) in
        record { within = omega arith; rest = rw (e, k.number, k.post, k.highest') (same ∙ (rw (k.left, k.post) at so_far.rest)) }

pub placing-ends : (l : LogHead) (own highest : ℕ) (p : Posts) (n : ℕ) (before contents : List ℕ) (i : ℕ)
    → Placing l own highest (posts_in n p.services p.lengths p.contents) n before contents i
    → n ≤ i
    → n ≤ p.count
    → contents ≡ (with_sent (log_on l before) own highest (take n (waiting p))).held.contents
unfolding with_sent posts_from
placing-ends l own highest p n before contents i so_far done few =
    let left : n - i ≡ zero = omega arith in
    rw (oldest p n few, ← posts-same p n 0 n) (rw left at so_far.rest)
