-- A loop that tests each element: what is left decides the whole.
use Prim.Native.Nat.{ℕ, zero, suc, ◌+◌, ◌<◌, ◌≤◌}
use mathlib.Core.Path.{◌≡◌, refl, sym, ap, ◌∙◌}
use mathlib.Core.List.{List, [], ◌∷◌}
use mathlib.Core.Bool.{Bool, true, false, ◌&&◌}
use borrow.Author.Tests.{leb-true}
use native.Mathlib.Numerals.{add-one}
use native.Mathlib.Omega.{arith}
use lib.ListN.{length, get_or, drop, replicate, drop_of_length-le}
use lib.Dec.{leb}
use lib.Seq.{drop-cons}
use Rattle.words.specs.Scan.{every, all_within, all_zero}

-- the elements before i have passed
pub record Scanning {A : Type 0} (test : A → List A → Bool) (s : List A) (i : ℕ) : Type 0 where
  pub within : i ≤ length s
  pub rest : every test (drop i s) ≡ every test s

module _ {A : Type 0} (test : A → List A → Bool) (s : List A) where
  pub scan-starts : Scanning test s 0
  scan-starts = record { within = omega arith; rest = refl }

  module _ (i : ℕ) (so_far : Scanning test s i) where
    -- the test of the element at i decides
    scan-here : (x : A) → i < length s → x ≡ get_or s i x → test x (drop (i + 1) s) && every test (drop (i + 1) s) ≡ every test s
    unfolding every
    scan-here x h here =
        let split : drop i s ≡ x ∷ drop (i + 1) s = rw add-one (drop-cons s i x h ∙ ap (λ y. y ∷ drop (suc i) s) (sym here)) in
        rw split at so_far.rest

    -- it fails
    pub scan-stops : (x : A) → i < length s → x ≡ get_or s i x → test x (drop (i + 1) s) ≡ false → false ≡ every test s
    scan-stops x h here f = rw f at (scan-here x h here)

    -- it holds
    pub scan-goes : (x : A) → i < length s → x ≡ get_or s i x → test x (drop (i + 1) s) ≡ true → Scanning test s (i + 1)
    scan-goes x h here f = record { within = omega arith; rest = rw f at (scan-here x h here) }

    -- nothing is left
    pub scan-ends : length s ≤ i → true ≡ every test s
    unfolding every
    scan-ends h = rw (drop_of_length-le s h) at so_far.rest

-- ---- a loop with no way out: what was found so far, and what is left

pub record Gathering {A : Type 0} (test : A → List A → Bool) (s : List A) (good : Bool) (i : ℕ) : Type 0 where
  pub within : i ≤ length s
  pub rest : good && every test (drop i s) ≡ every test s

regrouped : (a b c : Bool) → (a && b) && c ≡ a && (b && c)
regrouped true b c = refl
regrouped false b c = refl

all_found : (good : Bool) → good ≡ good && true
all_found true = refl
all_found false = refl

module _ {A : Type 0} (test : A → List A → Bool) (s : List A) where
  pub gather-starts : Gathering test s true 0
  gather-starts = record { within = omega arith; rest = refl }

  module _ (good : Bool) (i : ℕ) (so_far : Gathering test s good i) where
    pub gather-goes : (x : A) (also : Bool) → i < length s → x ≡ get_or s i x → also ≡ test x (drop (i + 1) s) → Gathering test s (good && also) (i + 1)
    unfolding every
    gather-goes x also h here e =
        let split : drop i s ≡ x ∷ drop (i + 1) s = rw add-one (drop-cons s i x h ∙ ap (λ y. y ∷ drop (suc i) s) (sym here)) in
        record {
          within = omega arith;
          rest = rw e (regrouped good (test x (drop (i + 1) s)) (every test (drop (i + 1) s)) ∙ rw split at so_far.rest);
        }

    pub gather-ends : length s ≤ i → good ≡ every test s
    unfolding every
    gather-ends h = all_found good ∙ rw (drop_of_length-le s h) at so_far.rest

-- ---- what a scan that passed tells

first_passes : (a b : Bool) → a && b ≡ true → a ≡ true
first_passes true b e = refl
first_passes false b e = e

rest-passes : (a b : Bool) → a && b ≡ true → b ≡ true
rest-passes true b e = e
rest-passes false b e = absurd (not-both e)
  where
    not-both : false ≡ true → ⊥
    not-both q = let z : ◌≡◌ {A = ℕ} 0 1 = cc in omega arith

pub within-most : (low high : ℕ) (s : List ℕ) → all_within low high s ≡ true → (i : ℕ) → get_or s i 0 ≤ high
unfolding every
within-most low high [] e i = omega arith
within-most low high (x ∷ s) e zero = leb-true x high (rest-passes (leb low x) (leb x high) (first_passes (leb low x && leb x high) (all_within low high s) e))
within-most low high (x ∷ s) e (suc i) = within-most low high s (rest-passes (leb low x && leb x high) (all_within low high s) e) i

pub zeros-are : (s : List ℕ) → all_zero s ≡ true → s ≡ replicate (length s) 0
unfolding every
zeros-are [] e = refl
zeros-are (x ∷ s) e =
    let none : x ≡ 0 = omega (arith, within-most 0 0 (x ∷ s) e 0) in
    rw (none, ← zeros-are s (rest-passes (leb 0 x && leb x 0) (all_zero s) e))
