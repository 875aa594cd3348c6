-- Numbers that may be held and places: each number has one place, and each place one such number.
use Prim.Native.Nat.{ℕ, suc, ◌+◌, ◌-◌, ◌<◌, ◌≤◌}
use mathlib.Core.Path.{◌≡◌, refl, sym, ◌∙◌}
use mathlib.Core.Bool.{Bool, true, false, not, ◌||◌, false≢true}
use mathlib.Core.List.{List}
use borrow.Author.Tests.{le-leb, lt-leb, le-ltb, lt-ltb}
use native.Mathlib.Nat.{zero-add}
use native.Mathlib.Decide.{dec_lt}
use native.Mathlib.Omega.{arith}
use lib.ListN.{get_or}
use lib.Dec.{leb, ltb, eqb}
use Rattle.record.specs.Size.{most_held}
pub use Rattle.record.specs.inner.Places.{before_in}
use Rattle.record.specs.Count.{every_from}
use Rattle.record.specs.Held.{place_of, holds}
use Rattle.record.specs.Whole.{held_to_level}
use Rattle.record.specs.declared.log.Log.{Log}
use Rattle.record.proofs.CountLaws.{each-passes, all-pass}

pub both_ways : (a b : Bool) → (a ≡ true → b ≡ true) → (b ≡ true → a ≡ true) → a ≡ b
both_ways true b there back = sym (there refl)
both_ways false true there back = back refl
both_ways false false there back = refl

-- a question of every number above the safe mark that may be held, asked of the places
pub by_place : (safe : ℕ) (asked question : ℕ → Bool)
    → ((j : ℕ) → j < most_held → asked (place_of (suc safe + j)) ≡ question (suc safe + j))
    → every_from asked 0 most_held ≡ every_from question (suc safe) most_held
by_place safe asked question same = both_ways _ _ there back
  where
    there : every_from asked 0 most_held ≡ true → every_from question (suc safe) most_held ≡ true
    there all = all-pass question (suc safe) most_held (λ j j<. sym (same j j<) ∙ rw zero-add at (each-passes asked 0 most_held all (place_of (suc safe + j)) (omega arith)))

    back : every_from question (suc safe) most_held ≡ true → every_from asked 0 most_held ≡ true
    back all = all-pass asked 0 most_held (λ i i<.
        let j = before_in safe i in
        let home : place_of (suc safe + j) ≡ i = omega arith in
        rw zero-add (rw home at (same j (omega arith) ∙ each-passes question (suc safe) most_held all j (omega arith))))

pub before-place : (safe j : ℕ) → j < most_held → before_in safe (place_of (suc safe + j)) ≡ j
before-place safe j h = omega arith

-- such a number is past another mark, the level or the delivered one, where as many come before it as lie between the two
pub past-mark : (safe mark j : ℕ) → leb (mark - safe) j ≡ ltb mark (suc safe + j)
past-mark safe mark j =
    elim (dec_lt j (mark - safe)) [
      | yes h ↦ rw (lt-leb (mark - safe) j h, le-ltb mark (suc safe + j) (omega arith))
      | no h ↦ rw (le-leb (mark - safe) j (omega arith), lt-ltb mark (suc safe + j) (omega arith))
    ]

-- such a number is held where its place is in use
pub held-in-place : (l : Log) (j : ℕ) → j < most_held → holds l (suc l.safe.0 + j) ≡ not (eqb (get_or l.held.senders (place_of (suc l.safe.0 + j)) 0) 0)
unfolding holds
held-in-place l j h = rw (lt-ltb l.safe.0 (suc l.safe.0 + j) (omega arith), le-leb (suc l.safe.0 + j) (l.safe.0 + most_held) (omega arith))

-- ---- all are held up to the level, place by place

-- the question of a place, as the code asks
abbrev pub place_filled : List ℕ → ℕ → ℕ → ℕ → Bool
place_filled senders many safe i = leb many (before_in safe i) || not (eqb (get_or senders i 0) 0)

module _ (l : Log) where
  abbrev many : ℕ
  many = l.level.0 - l.safe.0

  abbrev number : ℕ → ℕ
  number j = suc l.safe.0 + j

  abbrev question : ℕ → Bool
  question n = ltb l.level.0 n || holds l n

  same : (j : ℕ) → j < most_held → place_filled l.held.senders many l.safe.0 (place_of (number j)) ≡ question (number j)
  same j h = rw (before-place l.safe.0 j h, past-mark l.safe.0 l.level.0 j, held-in-place l j h)

  pub level-too-high : most_held < l.level.0 - l.safe.0 → false ≡ held_to_level l
  unfolding held_to_level holds
  level-too-high h = both_ways _ _ (λ (e : false ≡ true). absurd (false≢true e)) (λ all. sym (outside all))
    where
      outside : every_from (holds l) (suc l.safe.0) many ≡ true → true ≡ false
      outside all = sym (each-passes (holds l) (suc l.safe.0) many all most_held h) ∙ rw (lt-leb (number most_held) (l.safe.0 + most_held) (omega arith), lt-ltb l.safe.0 (number most_held) (omega arith))

  pub level-by-place : (good : Bool)
      → l.level.0 - l.safe.0 ≤ most_held
      → good ≡ every_from (place_filled l.held.senders (l.level.0 - l.safe.0) l.safe.0) 0 most_held
      → good ≡ held_to_level l
  unfolding held_to_level
  level-by-place good few e = e ∙ by_place l.safe.0 _ question same ∙ both_ways _ _ there back
    where
      there : every_from question (suc l.safe.0) most_held ≡ true → every_from (holds l) (suc l.safe.0) many ≡ true
      there all = all-pass (holds l) (suc l.safe.0) many (λ j j<. rw (le-ltb l.level.0 (number j) (omega arith)) at (each-passes question (suc l.safe.0) most_held all j (omega arith)))

      back : every_from (holds l) (suc l.safe.0) many ≡ true → every_from question (suc l.safe.0) most_held ≡ true
      back all = all-pass question (suc l.safe.0) most_held (λ j j<.
          elim (dec_lt j many) [
            | yes h ↦ rw (le-ltb l.level.0 (number j) (omega arith)) (each-passes (holds l) (suc l.safe.0) many all j h)
            | no h ↦ rw (lt-ltb l.level.0 (number j) (omega arith))
          ])
