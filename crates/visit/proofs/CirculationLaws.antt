-- The member after `own`, by the place where `own` is first.
use Prim.Native.Nat.{ℕ, zero, suc, ◌+◌, ◌<◌, ◌≤◌}
use mathlib.Core.Path.{◌≡◌, refl}
use mathlib.Core.List.{List, [], ◌∷◌}
use borrow.Author.Tests.{eq-eqb, ne_eqb}
use native.Mathlib.Numerals.{add-one}
use native.Mathlib.Omega.{arith}
use lib.ListN.{length, get_or}
use Rattle.visit.specs.Visit.{next_in}

-- there first at i
pub record First (ids : List ℕ) (own i : ℕ) : Type 0 where
  pub within : i < length ids
  pub here : get_or ids i 0 ≡ own
  pub before : (k : ℕ) → k < i → get_or ids k 0 ≡ own → ⊥

module _ (first own : ℕ) where
  after-place : (ids : List ℕ) (i : ℕ) → First ids own i → next_in first ids own ≡ get_or ids (suc i) first
  unfolding next_in
  after-place [] i f = absurd (omega (arith, f.within))
  after-place (id ∷ ids) zero f = rw (eq-eqb id own f.here)
  after-place (id ∷ ids) (suc i) f =
      rw (ne_eqb id own (f.before 0 (omega arith)))
      (after-place ids i (record { within = omega (arith, f.within); here = f.here; before = λ k h. f.before (suc k) (omega (arith, h)) }))

  in-range : (ids : List ℕ) (i : ℕ) → i < length ids → get_or ids i 0 ≡ get_or ids i first
  in-range [] i h = absurd (omega arith)
  in-range (id ∷ ids) zero h = refl
  in-range (id ∷ ids) (suc i) h = in-range ids i (omega arith)

  past-end : (ids : List ℕ) (i : ℕ) → length ids ≤ i → first ≡ get_or ids i first
  past-end [] i h = refl
  past-end (id ∷ ids) zero h = absurd (omega arith)
  past-end (id ∷ ids) (suc i) h = past-end ids i (omega arith)

  -- the next in the list
  pub next-after : (ids : List ℕ) (i : ℕ) → First ids own i → i + 1 < length ids → get_or ids (i + 1) 0 ≡ next_in first ids own
  next-after ids i f more = rw (add-one i, after-place ids i f) (in-range ids (suc i) (omega arith))

  -- after the last comes the first
  pub first-after : (ids : List ℕ) (i : ℕ) → First ids own i → length ids ≤ i + 1 → first ≡ next_in first ids own
  first-after ids i f last = rw (after-place ids i f) (past-end ids (suc i) (omega arith))

  pub first-else : (ids : List ℕ) → ((k : ℕ) → k < length ids → get_or ids k 0 ≡ own → ⊥) → first ≡ next_in first ids own
  unfolding next_in
  first-else [] none = refl
  first-else (id ∷ ids) none = rw (ne_eqb id own (none 0 (omega arith))) (first-else ids (λ k h. none (suc k) (omega (arith, h))))
