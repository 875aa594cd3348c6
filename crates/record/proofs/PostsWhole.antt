-- Queueing a post and taking the oldest keep the posts good: in range, and zero where not in use.
use Prim.Native.Nat.{ℕ, ◌+◌, ◌*◌, ◌-◌, ◌<◌, ◌≤◌}
use mathlib.Core.Path.{◌≡◌, ap}
use mathlib.Core.Bool.{true, false, and-false}
use mathlib.Core.List.{List, ◌++◌}
use borrow.Author.Tests.{eq-eqb, le-leb}
use native.Mathlib.Nat.{add-zero}
use native.Mathlib.Decide.{dec_lt}
use native.Mathlib.Omega.{arith}
use lib.ListN.{length, get_or, set, take, drop, replicate, length-drop}
use lib.Seq.{get_or-drop, drop-drop, drop-set-lt, drop-append-le, drop-append-add}
use Rattle.words.specs.Scan.{all_zero}
use Rattle.words.proofs.ScanLaws.{within-most}
use Rattle.frames.specs.Layout.{most_service, most_content}
use Rattle.frames.proofs.Facts.{part}
use Rattle.record.specs.Size.{most_posts, post_contents}
use Rattle.record.specs.Posts.{queued, taken}
use Rattle.record.specs.Contents.{padding}
use Rattle.record.specs.Whole.{posts_in_range, contents_padded, posts_unused_zero}
use Rattle.record.specs.declared.posts.Posts.{Posts}
use Rattle.record.proofs.RangeFacts.{posts-range}
use Rattle.record.proofs.ListLaws.{moved-number, moved-part, Most, most-set, most-drop, most-take, most-append, most-zeros, all-within}
use Rattle.record.proofs.PaddedLaws.{padded-at, padded-from, padded-with}
use Rattle.record.proofs.PostLaws.{PostSizes, post-sizes, sizes-queued, sizes-taken}

-- ---- the tests from facts, and facts from the test

in-range : (p : Posts) → PostSizes p → p.count ≤ most_posts → Most most_service p.services → posts_in_range p ≡ true
unfolding posts_in_range
in-range p s few services =
    rw (
      eq-eqb (length p.services) most_posts s.arrays.services,
      eq-eqb (length p.lengths) most_posts s.arrays.lengths,
      eq-eqb (length p.contents) post_contents s.arrays.contents,
      le-leb p.count most_posts few,
      all-within most_service p.services services,
      all-within most_content p.lengths s.short,
    )

record Unused (p : Posts) : Type 0 where
  services : Most 0 (drop p.count p.services)
  lengths : Most 0 (drop p.count p.lengths)
  contents : contents_padded p.lengths p.contents ≡ true

unused-facts : (p : Posts) → posts_unused_zero p ≡ true → Unused p
unfolding posts_unused_zero
unused-facts p e =
    record {
      services = within-most 0 0 (drop p.count p.services) (part e (λ (f : all_zero (drop p.count p.services) ≡ false). rw f));
      lengths = within-most 0 0 (drop p.count p.lengths) (part e (λ (f : all_zero (drop p.count p.lengths) ≡ false). simp (f, and-false)));
      contents = part e (λ (f : contents_padded p.lengths p.contents ≡ false). simp (f, and-false));
    }

unused-zero : (p : Posts) → Unused p → posts_unused_zero p ≡ true
unfolding posts_unused_zero
unused-zero p u = rw (all-within 0 (drop p.count p.services) u.services, all-within 0 (drop p.count p.lengths) u.lengths, u.contents)

-- ---- one more

later : (n x : ℕ) (l : List ℕ) → Most 0 (drop n l) → Most 0 (drop (n + 1) (set l n x))
later n x l zeros i = rw (drop-set-lt (n + 1) l n x (omega arith), ← drop-drop 1 n l) (most-drop 0 1 (drop n l) zeros i)

module _ (p : Posts) (service : ℕ) (content : List ℕ) (room : p.count < most_posts) (short : length content ≤ most_content) where
  queued-unused : PostSizes p → Unused p → Unused (queued p service content)
  unfolding queued
  queued-unused s u =
      let free : get_or p.lengths p.count 0 ≡ 0 = omega (arith, rw (get_or-drop, add-zero p.count) at (u.lengths 0)) in
      record {
        services = later p.count service p.services u.services;
        lengths = later p.count (length content) p.lengths u.lengths;
        contents = padded-with p.lengths p.contents p.count content short u.contents s.short free;
      }

  pub queued-in-range : posts_in_range p ≡ true → service ≤ most_service → posts_in_range (queued p service content) ≡ true
  unfolding queued
  queued-in-range good known =
      let r = posts-range p good in
      let services = most-set most_service p.services p.count service r.services known in
      in-range (queued p service content) (sizes-queued p service content (post-sizes p r) room short) (omega arith) services

  pub queued-unused-zero : posts_in_range p ≡ true → posts_unused_zero p ≡ true → posts_unused_zero (queued p service content) ≡ true
  queued-unused-zero good zeros = unused-zero (queued p service content) (queued-unused (post-sizes p (posts-range p good)) (unused-facts p zeros))

-- ---- without the n oldest

moved_later : (n count : ℕ) (l : List ℕ) → n ≤ count → count ≤ length l → Most 0 (drop count l) → Most 0 (drop (count - n) (drop n l ++ replicate n 0))
moved_later n count l there few zeros =
    let e : n + (count - n) ≡ count = omega arith in
    rw (drop-append-le (count - n) (drop n l) (replicate n 0) (simp length-drop (omega arith)), drop-drop (count - n) n l, e)
    (most-append 0 (drop count l) (replicate n 0) zeros (most-zeros 0 n))

-- past what moved up, all is zero
left-zero : (size at n : ℕ) (l : List ℕ) → length l ≤ at → Most 0 (take size (drop at (l ++ replicate n 0)))
left-zero size at n l h =
    let e : at ≡ length l + (at - length l) = omega arith in
    rw (ap (λ k. drop k (l ++ replicate n 0)) e, drop-append-add l (replicate n 0) (at - length l))
    (most-take 0 size (drop (at - length l) (replicate n 0)) (most-drop 0 (at - length l) (replicate n 0) (most-zeros 0 n)))

module _ (p : Posts) (n : ℕ) (there : n ≤ p.count) (good : posts_in_range p ≡ true) where
  taken-padding : PostSizes p → Unused p → (place : ℕ) → n + place < most_posts → Most 0 (padding (taken p n).lengths (taken p n).contents place)
  unfolding taken
  taken-padding s u place h =
      let k = get_or p.lengths (n + place) 0 in
      rw (
        moved-number p.lengths n place (omega (arith, s.arrays.lengths)),
        moved-part (most_content - k) p.contents n place k (omega (arith, s.arrays.contents, s.short (n + place))),
      )
      (padded-at p.lengths p.contents u.contents (n + place) (omega (arith, s.arrays.lengths)))

  left-padding : PostSizes p → (place : ℕ) → most_posts ≤ n + place → Most 0 (padding (taken p n).lengths (taken p n).contents place)
  unfolding taken
  left-padding s place h =
      let k = get_or (taken p n).lengths place 0 in
      left-zero (most_content - k) (most_content * place + k) (most_content * n) (drop (most_content * n) p.contents) (simp length-drop (omega (arith, s.arrays.contents)))

  taken-padded : PostSizes p → Unused p → contents_padded (taken p n).lengths (taken p n).contents ≡ true
  taken-padded s u = padded-from (taken p n).lengths (taken p n).contents each
    where
      each : (place : ℕ) → place < length (taken p n).lengths → Most 0 (padding (taken p n).lengths (taken p n).contents place)
      each place h =
          elim (dec_lt (n + place) most_posts) [
            | yes q ↦ taken-padding s u place q
            | no q ↦ left-padding s place (omega arith)
          ]

  taken-unused : PostSizes p → p.count ≤ most_posts → Unused p → Unused (taken p n)
  unfolding taken
  taken-unused s few u =
      record {
        services = moved_later n p.count p.services there (omega (arith, s.arrays.services)) u.services;
        lengths = moved_later n p.count p.lengths there (omega (arith, s.arrays.lengths)) u.lengths;
        contents = taken-padded s u;
      }

  pub taken-in-range : posts_in_range (taken p n) ≡ true
  unfolding taken
  taken-in-range =
      let r = posts-range p good in
      let services = most-append most_service (drop n p.services) (replicate n 0) (most-drop most_service n p.services r.services) (most-zeros most_service n) in
      in-range (taken p n) (sizes-taken p n (post-sizes p r) there r.count) (omega (arith, r.count)) services

  pub taken-unused-zero : posts_unused_zero p ≡ true → posts_unused_zero (taken p n) ≡ true
  taken-unused-zero zeros =
      let r = posts-range p good in
      unused-zero (taken p n) (taken-unused (post-sizes p r) r.count (unused-facts p zeros))
