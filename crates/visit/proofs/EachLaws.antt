-- What holds of each element of a list.
use Prim.Native.Nat.{ℕ, zero, suc, ◌+◌, ◌≤◌, ◌<◌}
use mathlib.Core.Path.{◌≡◌, refl, sym}
use mathlib.Core.Bool.{Bool, true, false, not, cond, and-false}
use mathlib.Core.List.{List, [], ◌∷◌, ◌++◌, map}
use borrow.Author.Tests.{ne_eqb, eqb-false, not-true}
use native.Mathlib.Omega.{arith}
use lib.ListN.{length, take}
use lib.Dec.{eqb}
use Rattle.words.specs.Scan.{every, lacks, distinct}
use Rattle.frames.proofs.Facts.{part}
use Rattle.record.specs.Count.{those, numbers_after}
use Rattle.visit.specs.Reads.{Each}

-- ---- of any list

module _ {A : Type 0} (P Q : A → Type 0) where
  pub each_map : (xs : List A) → ((x : A) → P x → Q x) → Each P xs → Each Q xs
  each_map [] f all = tt
  each_map (x ∷ xs) f all = (f x all.0, each_map xs f all.1)

module _ {A : Type 0} (P : A → Type 0) where
  pub each_append : (xs ys : List A) → Each P xs → Each P ys → Each P (xs ++ ys)
  each_append [] ys all rest = rest
  each_append (x ∷ xs) ys all rest = (all.0, each_append xs ys all.1 rest)

  pub each_take : (n : ℕ) (xs : List A) → Each P xs → Each P (take n xs)
  each_take zero xs all = tt
  each_take (suc n) [] all = tt
  each_take (suc n) (x ∷ xs) all = (all.0, each_take n xs all.1)

pub each-mapped : {A B : Type 0} (P : B → Type 0) (f : A → B) (xs : List A) → Each (λ x. P (f x)) xs → Each P (map f xs)
each-mapped P f [] all = tt
each-mapped P f (x ∷ xs) all = (all.0, each-mapped P f xs all.1)

-- ---- a test of each

pub every_of : (p : ℕ → Bool) (xs : List ℕ) → Each (λ x. p x ≡ true) xs → every (λ x after. p x) xs ≡ true
unfolding every
every_of p [] all = refl
every_of p (x ∷ xs) all = rw (all.0, every_of p xs all.1)

pub of-every : (p : ℕ → Bool) (xs : List ℕ) → every (λ x after. p x) xs ≡ true → Each (λ x. p x ≡ true) xs
unfolding every
of-every p [] e = tt
of-every p (x ∷ xs) e = (part e (λ (f : p x ≡ false). rw f), of-every p xs (part e (λ (f : every (λ y after. p y) xs ≡ false). simp (f, and-false))))

-- ---- those that pass

pub those-each : (P : ℕ → Type 0) (test : ℕ → Bool) (xs : List ℕ) → Each P xs → Each P (those test xs)
unfolding those
those-each P test [] all = tt
those-each P test (x ∷ xs) all = go (test x) (those-each P test xs all.1)
  where
    go : (b : Bool) → Each P (those test xs) → Each P (cond b (x ∷ those test xs) (those test xs))
    go true rest = (all.0, rest)
    go false rest = rest

pub those-pass : (test : ℕ → Bool) (xs : List ℕ) → Each (λ x. test x ≡ true) (those test xs)
unfolding those
those-pass test [] = tt
those-pass test (x ∷ xs) = go (test x) refl (those-pass test xs)
  where
    go : (b : Bool) → test x ≡ b → Each (λ y. test y ≡ true) (those test xs) → Each (λ y. test y ≡ true) (cond b (x ∷ those test xs) (those test xs))
    go true e rest = (e, rest)
    go false e rest = rest

pub those-length : (test : ℕ → Bool) (xs : List ℕ) → length (those test xs) ≤ length xs
unfolding those
those-length test [] = omega arith
those-length test (x ∷ xs) = go (test x) (those-length test xs)
  where
    go : (b : Bool) → length (those test xs) ≤ length xs → length (cond b (x ∷ those test xs) (those test xs)) ≤ suc (length xs)
    go true h = omega arith
    go false h = omega arith

-- ---- none stands twice

abbrev pub Other : ℕ → ℕ → Type 0
Other x y = not (eqb y x) ≡ true

pub other-of : (x y : ℕ) → (y ≡ x → ⊥) → Other x y
other-of x y h = rw (ne_eqb y x h)

pub of_other : (x y : ℕ) → Other x y → y ≡ x → ⊥
of_other x y e = eqb-false y x (not-true (eqb y x) e)

pub lacks-of : (x : ℕ) (xs : List ℕ) → Each (Other x) xs → lacks xs x ≡ true
lacks-of x xs all = every_of (λ y. not (eqb y x)) xs all

pub of-lacks : (x : ℕ) (xs : List ℕ) → lacks xs x ≡ true → Each (Other x) xs
of-lacks x xs e = of-every (λ y. not (eqb y x)) xs e

-- each is other than those after it
abbrev pub Distinct : List ℕ → Type 0
Distinct [] = Unit {0}
Distinct (x ∷ xs) = Each (Other x) xs × Distinct xs

pub distinct_of : (xs : List ℕ) → Distinct xs → distinct xs ≡ true
unfolding every
distinct_of [] d = refl
distinct_of (x ∷ xs) d = rw (lacks-of x xs d.0, distinct_of xs d.1)

pub of-distinct : (xs : List ℕ) → distinct xs ≡ true → Distinct xs
unfolding every
of-distinct [] e = tt
of-distinct (x ∷ xs) e = (of-lacks x xs (part e (λ (f : lacks xs x ≡ false). rw f)), of-distinct xs (part e (λ (f : distinct xs ≡ false). simp (f, and-false))))

pub distinct-those : (test : ℕ → Bool) (xs : List ℕ) → Distinct xs → Distinct (those test xs)
unfolding those
distinct-those test [] d = tt
distinct-those test (x ∷ xs) d = go (test x) (distinct-those test xs d.1)
  where
    go : (b : Bool) → Distinct (those test xs) → Distinct (cond b (x ∷ those test xs) (those test xs))
    go true rest = (those-each (Other x) test xs d.0, rest)
    go false rest = rest

pub distinct-take : (n : ℕ) (xs : List ℕ) → Distinct xs → Distinct (take n xs)
distinct-take zero xs d = tt
distinct-take (suc n) [] d = tt
distinct-take (suc n) (x ∷ xs) d = (each_take (Other x) n xs d.0, distinct-take n xs d.1)

-- the second list's are none of the first's
pub distinct_append : (xs ys : List ℕ) → Distinct xs → Distinct ys → Each (λ y. lacks xs y ≡ true) ys → Distinct (xs ++ ys)
unfolding every
distinct_append [] ys d rest apart = rest
distinct_append (x ∷ xs) ys d rest apart =
    let here : Each (Other x) ys = each_map (λ y. lacks (x ∷ xs) y ≡ true) (Other x) ys (λ y e. other-of x y (λ q. of_other y x (of-lacks y (x ∷ xs) e).0 (sym q))) apart in
    let later : Each (λ y. lacks xs y ≡ true) ys = each_map (λ y. lacks (x ∷ xs) y ≡ true) (λ y. lacks xs y ≡ true) ys (λ y e. lacks-of y xs (of-lacks y (x ∷ xs) e).1) apart in
    (each_append (Other x) xs ys d.0 here, distinct_append xs ys d.1 rest later)

-- ---- the n numbers after one

pub record Between (low high n : ℕ) : Type 0 where
  pub above : low < n
  pub upto : n ≤ high

pub after-between : (highest n : ℕ) → Each (Between highest (highest + n)) (numbers_after highest n)
unfolding numbers_after
after-between highest zero = tt
after-between highest (suc n) = (
  record { above = omega arith; upto = omega arith },
  each_map (Between (suc highest) (suc highest + n)) (Between highest (highest + suc n)) (numbers_after (suc highest) n) (λ x b. record { above = omega (arith, b.above); upto = omega (arith, b.upto) })
      (after-between (suc highest) n),
)

pub after-length : (highest n : ℕ) → length (numbers_after highest n) ≡ n
unfolding numbers_after
after-length highest zero = refl
after-length highest (suc n) = rw (after-length (suc highest) n)

pub after-distinct : (highest n : ℕ) → Distinct (numbers_after highest n)
unfolding numbers_after
after-distinct highest zero = tt
after-distinct highest (suc n) = (
  each_map (Between (suc highest) (suc highest + n)) (Other (suc highest)) (numbers_after (suc highest) n) (λ x b. other-of (suc highest) x (λ q. omega (arith, b.above)))
      (after-between (suc highest) n),
  after-distinct (suc highest) n,
)
