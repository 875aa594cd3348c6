-- A post in the record's bytes: only those of the posts change.
use Rattle.std.proofs.lemmas.List.{take_rest}
use Prim.Native.Nat.{ℕ, ◌+◌, ◌-◌}
use mathlib.Core.Path.{◌≡◌, sym, ap, ◌∙◌}
use mathlib.Core.List.{List, [], ◌++◌, append-nil}
use native.Mathlib.Omega.{arith}
use lib.ListN.{length, take, drop, length-append, length-drop, drop_of_length-le, take-append-drop}
use lib.Seq.{sets, sets-eq, length-take-le, take_all, take-append-le, drop_at, drop-drop}
use Rattle.words.specs.Word.{Bytes}
use Rattle.record.specs.Size.{post_contents}
use Rattle.record.specs.Layout.{posts_at, post_contents_at, posts_size, record_size}
use Rattle.record.specs.Bytes.{posts_of, posts_bytes, record_of, record_bytes}
use Rattle.record.specs.Posts.{queued}
use Rattle.record.specs.Parts.{with_posts}
use Rattle.record.specs.inner.Head.{posts_on, waiting_in}
use Rattle.record.specs.declared.head.PostsHead.{PostsHead}
use Rattle.record.specs.declared.posts.Posts.{Posts}
use Rattle.record.proofs.Arrays.{PostsArrays}
use Rattle.record.proofs.Sizes.{posts-length}
use Rattle.record.proofs.RoundTrip.{with-posts}

-- the head that was read, over the contents where they stand
pub posts-there : (s : List ℕ) (p : PostsHead)
    → length s ≡ record_size
    → posts_on p (waiting_in (take (length s - posts_at) (drop posts_at s)) 0) ≡ posts_of (take (length s - posts_at) (drop posts_at s))
    → posts_on p (take (length s - (posts_at + post_contents_at)) (drop (posts_at + post_contents_at) s)) ≡ (record_of s).posts
unfolding record_of
posts-there s p size e =
    let left : length s - (posts_at + post_contents_at) ≡ post_contents = omega (arith, size) in
    rw left (rw (take_rest s posts_at, drop-drop (0 + post_contents_at) posts_at s) at e)

pub post-put : (s w s₂ : List ℕ) (before after : PostsHead) (service : ℕ) (content : List ℕ)
    → Bytes s
    → length s ≡ record_size
    → PostsArrays (posts_on after w)
    → posts_on before (waiting_in (take (length s - posts_at) (drop posts_at s)) 0) ≡ posts_of (take (length s - posts_at) (drop posts_at s))
    → posts_on after w ≡ queued (posts_on before (take (length s - (posts_at + post_contents_at)) (drop (posts_at + post_contents_at) s))) service content
    → s₂ ≡ sets (take (posts_at + post_contents_at) s ++ (w ++ drop (length s - (posts_at + post_contents_at)) (drop (posts_at + post_contents_at) s))) posts_at
    (posts_bytes (posts_on after (waiting_in (take (posts_at + post_contents_at) s ++ (w ++ drop (length s - (posts_at + post_contents_at)) (drop (posts_at + post_contents_at) s))) posts_at)))
    → s₂ ≡ record_bytes (with_posts (record_of s) (queued (record_of s).posts service content))
post-put s w s₂ before after service content b size arrays e₁ e₂ e₃ =
    let at = posts_at + post_contents_at in
    let left : length s - at ≡ post_contents = omega (arith, size) in
    let none : drop post_contents (drop at s) ≡ [] = drop_of_length-le (drop at s) {i = post_contents} (rw length-drop (omega (arith, size))) in
    let same : take at s ++ (w ++ drop (length s - at) (drop at s)) ≡ take at s ++ w = rw (left, none, append-nil) in
    let front : length (take at s) ≡ at = length-take-le at s (omega (arith, size)) in
    let there : waiting_in (take at s ++ w) posts_at ≡ w = rw (drop_at (take at s) w at front) (take_all post_contents w (omega (arith, arrays.contents))) in
    let all : length (take at s ++ w) ≡ record_size = rw (length-append (take at s) w, front, arrays.contents) in
    let bytes : length (posts_bytes (posts_on after w)) ≡ posts_size = posts-length (posts_on after w) arrays in
    let past : drop (posts_at + length (posts_bytes (posts_on after w))) (take at s ++ w) ≡ [] = drop_of_length-le (take at s ++ w) {i = posts_at + length (posts_bytes (posts_on after w))} (omega (arith, bytes, all)) in
    let cut : take posts_at (take at s ++ w) ≡ take posts_at s =
    take-append-le posts_at (take at s) w (omega (arith, front)) ∙ sym (take-append-le posts_at (take at s) (drop at s) (omega (arith, front))) ∙ ap (take posts_at) (take-append-drop at s) in
    let stored : s₂ ≡ sets (take at s ++ w) posts_at (posts_bytes (posts_on after w)) = rw (same, there) at e₃ in
    let posts : posts_on after w ≡ queued (record_of s).posts service content = rw (posts-there s before size e₁) at e₂ in
    let ended : sets (take at s ++ w) posts_at (posts_bytes (posts_on after w)) ≡ take posts_at s ++ posts_bytes (posts_on after w) =
    sets-eq (posts_bytes (posts_on after w)) (take at s ++ w) posts_at (omega (arith, bytes, all)) ∙ rw (past, append-nil (take posts_at (take at s ++ w) ++ posts_bytes (posts_on after w)), cut) in
    stored
    ∙ ended
    ∙ with-posts s (posts_on after w) b size
    ∙ ap (λ (p : Posts). record_bytes (with_posts (record_of s) p)) posts
