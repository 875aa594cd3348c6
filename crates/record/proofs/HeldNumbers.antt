-- The numbers held: a test of them all is a test of the numbers that may be held, or of their places, of which those not held are excused.
use Prim.Native.Nat.{ℕ, zero, suc, ◌+◌}
use mathlib.Core.Path.{◌≡◌, refl, ◌∙◌}
use mathlib.Core.Bool.{Bool, true, false, not, ◌&&◌, ◌||◌, or-true, or-false}
use borrow.Author.Tests.{le-leb}
use native.Mathlib.Omega.{arith}
use lib.Dec.{leb}
use Rattle.words.specs.Scan.{every, all_within}
use Rattle.record.specs.Size.{most_held}
use Rattle.record.specs.Count.{every_from, numbers_after, those}
use Rattle.record.specs.Held.{place_of, in_use, holds, held_numbers}
use Rattle.record.specs.declared.log.Log.{Log}
use Rattle.record.proofs.CountLaws.{all_same}
use Rattle.record.proofs.PlaceLaws.{held-in-place}

module _ (test asked : ℕ → Bool) where
  abbrev Excused : ℕ → ℕ → Type 0
  Excused last n = every (λ x after. asked x) (those test (numbers_after last n)) ≡ every_from (λ x. asked x || not (test x)) (suc last) n

  one_more : (last n : ℕ) (b : Bool) → test (suc last) ≡ b → Excused (suc last) n → Excused last (suc n)
  unfolding every those numbers_after every_from
  one_more last n true e rest = rw (e, or-false (asked (suc last)), rest)
  one_more last n false e rest = rw (e, or-true (asked (suc last)), rest)

  pub every-those : (last n : ℕ) → every (λ x after. asked x) (those test (numbers_after last n)) ≡ every_from (λ x. asked x || not (test x)) (suc last) n
  unfolding every those numbers_after every_from
  every-those last zero = refl
  every-those last (suc n) = one_more last n (test (suc last)) refl (every-those (suc last) n)

module _ (l : Log) (most : ℕ) where
  pub held-within : all_within 1 most (held_numbers l) ≡ every_from (λ n. leb n most || not (holds l n)) (suc l.safe.0) most_held
  unfolding held_numbers
  held-within =
      every-those (holds l) (λ n. leb 1 n && leb n most) l.safe.0 most_held
      ∙ all_same _ _ (suc l.safe.0) most_held (λ i h. rw (le-leb 1 (suc l.safe.0 + i) (omega arith)))

  -- as a loop asks that looks at the places alone
  pub places-within : all_within 1 most (held_numbers l) ≡ every_from (λ n. leb n most || not (in_use l.held (place_of n))) (suc l.safe.0) most_held
  places-within = held-within ∙ all_same _ _ (suc l.safe.0) most_held (λ j j<. rw (held-in-place l j j<))
