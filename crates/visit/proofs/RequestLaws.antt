-- The requests of the token that is written follow the layout.
use Prim.Native.Nat.{ℕ, ◌+◌, ◌-◌, ◌≤◌, min}
use mathlib.Core.Path.{◌≡◌, refl, ◌∙◌}
use mathlib.Core.Bool.{true, false, not, ◌&&◌, and-false}
use mathlib.Core.List.{List, ◌++◌}
use borrow.Author.Tests.{leb-true, le-leb, eq-eqb}
use native.Mathlib.Omega.{arith}
use lib.ListN.{length, take, replicate, length-take, length-append, length-replicate}
use lib.Dec.{leb}
use lib.Seq.{take_at, drop_at}
use Rattle.words.specs.Scan.{all_within, lacks, distinct}
use Rattle.frames.specs.Layout.{most_requests}
use Rattle.frames.specs.Token.{request_numbers, requests_follow, token_follows}
use Rattle.frames.proofs.Facts.{part}
use Rattle.record.specs.Size.{most_held}
use Rattle.record.specs.Held.{holds}
use Rattle.record.proofs.ListLaws.{all-within, most-zeros}
use Rattle.visit.specs.Visit.{Visit, log, requests, unanswered, highest', log_now, level', safe', new_count, missing, requests'}
use Rattle.record.specs.Count.{numbers_after}
use Rattle.visit.specs.Reads.{Each}
use Rattle.visit.specs.Acceptable.{Acceptable}
use Rattle.visit.proofs.EachLaws.{Between, each_map, each_append, each_take, every_of, of-every, those-each, those-pass, Distinct, distinct_of, of-distinct, distinct-those, distinct-take, distinct_append, after-between, after-distinct}
use Rattle.visit.proofs.VisitFacts.{token-good}

-- ---- a list of requests, padded with zeros

pub padded-follow : (xs : List ℕ) (highest : ℕ)
    → length xs ≤ most_requests
    → Each (Between 0 highest) xs
    → Distinct xs
    → requests_follow (length xs) (xs ++ replicate (most_requests - length xs) 0) highest ≡ true
unfolding requests_follow
padded-follow xs highest few known once =
    let pad : List ℕ = replicate (most_requests - length xs) 0 in
    let long : length (xs ++ pad) ≡ most_requests = length-append xs pad ∙ rw length-replicate (omega arith) in
    let within : all_within 1 highest xs ≡ true =
    every_of (λ x. leb 1 x && leb x highest) xs
    (each_map (Between 0 highest) (λ x. leb 1 x && leb x highest ≡ true) xs (λ x b. rw (le-leb 1 x (omega (arith, b.above)), le-leb x highest b.upto)) known) in
    rw (
      take_at xs pad (length xs) refl,
      drop_at xs pad (length xs) refl,
      eq-eqb (length (xs ++ pad)) most_requests long,
      le-leb (length xs) most_requests few,
      within,
      distinct_of xs once,
      all-within 0 pad (most-zeros 0 (most_requests - length xs)),
    )

-- ---- the requests of a visit

module _ (v : Visit) (a : Acceptable v) where
  requests-good : requests_follow v.token.count (request_numbers v.token) v.token.highest.0 ≡ true
  unfolding token_follows
  requests-good = part a.follows (λ (f : requests_follow v.token.count (request_numbers v.token) v.token.highest.0 ≡ false). simp (f, and-false))

  pub requests-known : Each (Between 0 v.token.highest.0) (requests v)
  unfolding requests
  requests-known =
      let top = v.token.highest.0 in
      each_map (λ x. leb 1 x && leb x top ≡ true) (Between 0 top) (requests v)
      (λ x e. record {
        above = leb-true 1 x (part e (λ (f : leb 1 x ≡ false). rw f));
        upto = leb-true x top (part e (λ (f : leb x top ≡ false). simp (f, and-false)));
      })
      (of-every (λ x. leb 1 x && leb x top) (requests v) (token-good v a).requests.known)

  pub requests-once : Distinct (requests v)
  unfolding requests requests_follow
  requests-once = of-distinct (requests v) (part requests-good (λ (f : distinct (take v.token.count (request_numbers v.token)) ≡ false). simp (f, and-false)))

  unanswered-known : Each (Between 0 (highest' v)) (unanswered v)
  unfolding unanswered highest'
  unanswered-known =
      those-each (Between 0 (v.token.highest.0 + new_count v)) (λ n. not (holds (log v) n)) (requests v)
      (each_map (Between 0 v.token.highest.0) (Between 0 (v.token.highest.0 + new_count v)) (requests v) (λ x b. record { above = b.above; upto = omega (arith, b.upto) }) requests-known)

  unanswered-once : Distinct (unanswered v)
  unfolding unanswered
  unanswered-once = distinct-those (λ n. not (holds (log v) n)) (requests v) requests-once

  abbrev wanted : ℕ
  wanted = min (highest' v) (safe' v + most_held) - level' v

  -- above the level, up to the highest number
  pub missing-between : Each (Between (level' v) (highest' v)) (missing v)
  unfolding missing
  missing-between =
      those-each (Between (level' v) (highest' v)) (λ n. not (holds (log_now v) n) && lacks (unanswered v) n) (numbers_after (level' v) wanted)
      (each_map (Between (level' v) (level' v + wanted)) (Between (level' v) (highest' v)) (numbers_after (level' v) wanted) (λ x b. record { above = b.above; upto = omega (arith, b.above, b.upto) }) (after-between (level' v) wanted))

  missing-known : Each (Between 0 (highest' v)) (missing v)
  missing-known = each_map (Between (level' v) (highest' v)) (Between 0 (highest' v)) (missing v) (λ x b. record { above = omega (arith, b.above); upto = b.upto }) missing-between

  missing-once : Distinct (missing v)
  unfolding missing
  missing-once = distinct-those (λ n. not (holds (log_now v) n) && lacks (unanswered v) n) (numbers_after (level' v) wanted) (after-distinct (level' v) wanted)

  missing-apart : Each (λ n. lacks (unanswered v) n ≡ true) (missing v)
  unfolding missing
  missing-apart =
      each_map (λ n. not (holds (log_now v) n) && lacks (unanswered v) n ≡ true) (λ n. lacks (unanswered v) n ≡ true) (missing v)
      (λ n e. part e (λ (f : lacks (unanswered v) n ≡ false). simp (f, and-false)))
      (those-pass (λ n. not (holds (log_now v) n) && lacks (unanswered v) n) (numbers_after (level' v) wanted))

  pub few-requests : length (requests' v) ≤ most_requests
  unfolding requests'
  few-requests = omega (arith, length-take most_requests (unanswered v ++ missing v))

  requests-known' : Each (Between 0 (highest' v)) (requests' v)
  unfolding requests'
  requests-known' = each_take (Between 0 (highest' v)) most_requests (unanswered v ++ missing v) (each_append (Between 0 (highest' v)) (unanswered v) (missing v) unanswered-known missing-known)

  requests-once' : Distinct (requests' v)
  unfolding requests'
  requests-once' = distinct-take most_requests (unanswered v ++ missing v) (distinct_append (unanswered v) (missing v) unanswered-once missing-once missing-apart)

  pub requests-follow : requests_follow (length (requests' v)) (requests' v ++ replicate (most_requests - length (requests' v)) 0) (highest' v) ≡ true
  requests-follow = padded-follow (requests' v) (highest' v) few-requests requests-known' requests-once'
