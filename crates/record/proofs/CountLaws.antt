-- A loop that tests each of a run of numbers: what is left decides the whole.
use Prim.Native.Nat.{ℕ, zero, suc, ◌+◌, ◌-◌, ◌<◌, ◌≤◌}
use mathlib.Core.Path.{◌≡◌, refl, sym, ◌∙◌}
use mathlib.Core.Bool.{Bool, true, false, ◌&&◌, and-false, and-true, and_assoc}
use mathlib.Core.List.{List, [], ◌∷◌, ◌++◌}
use native.Mathlib.Nat.{add-zero, zero-add, sub-zero}
use native.Mathlib.Omega.{arith}
use lib.ListN.{length, length-append}
use Rattle.frames.proofs.Facts.{part}
use Rattle.record.specs.Count.{every_from}

-- of n numbers from `first` on, the first i have passed
pub record Counting (test : ℕ → Bool) (first n i : ℕ) : Type 0 where
  pub within : i ≤ n
  pub rest : every_from test (first + i) (n - i) ≡ every_from test first n

pub count-starts : (test : ℕ → Bool) (first n : ℕ) → Counting test first n 0
count-starts test first n = record { within = omega arith; rest = rw (add-zero first, sub-zero n) refl }

-- the next of those that are left
next : (test : ℕ → Bool) (first n i : ℕ) → i < n → every_from test (first + i) (n - i) ≡ (test (first + i) && every_from test (first + (i + 1)) (n - (i + 1)))
unfolding every_from
next test first n i h =
    let e : n - i ≡ suc (n - (i + 1)) = omega arith in
    let s : first + (i + 1) ≡ suc (first + i) = omega arith in
    rw (e, s)

module _ (test : ℕ → Bool) (first n i : ℕ) (so_far : Counting test first n i) where
  -- the test fails at i
  pub count-stops : i < n → test (first + i) ≡ false → false ≡ every_from test first n
  count-stops h f = rw (next test first n i h, f) at so_far.rest

  -- it holds at i
  pub count-goes : i < n → test (first + i) ≡ true → Counting test first n (i + 1)
  count-goes h f = record { within = omega arith; rest = rw (next test first n i h, f) at so_far.rest }

  -- nothing is left
  pub count-ends : n ≤ i → true ≡ every_from test first n
  unfolding every_from
  count-ends h =
      let e : n - i ≡ 0 = omega arith in
      rw e at so_far.rest

-- ---- a loop with no way out: what was found so far, and what is left

pub record Gathered (test : ℕ → Bool) (first n : ℕ) (good : Bool) (i : ℕ) : Type 0 where
  pub within : i ≤ n
  pub rest : good && every_from test (first + i) (n - i) ≡ every_from test first n

pub gathered-starts : (test : ℕ → Bool) (first n : ℕ) → Gathered test first n true 0
gathered-starts test first n = record { within = omega arith; rest = rw (add-zero first, sub-zero n) refl }

module _ (test : ℕ → Bool) (first n : ℕ) (good : Bool) (i : ℕ) (so_far : Gathered test first n good i) where
  pub gathered-goes : i < n → Gathered test first n (good && test (first + i)) (i + 1)
  gathered-goes h =
      record {
        within = omega arith;
        rest = and_assoc good (test (first + i)) (every_from test (first + (i + 1)) (n - (i + 1))) ∙ rw (next test first n i h) at so_far.rest;
      }

  pub gathered-ends : n ≤ i → good ≡ every_from test first n
  unfolding every_from
  gathered-ends h =
      let e : n - i ≡ 0 = omega arith in
      sym (and-true good) ∙ rw e at so_far.rest

-- of a run from 0 on, by what an iterator has yielded so far
pub gathered-more : {A : Type 0} (test : ℕ → Bool) (n : ℕ) (good : Bool) (xs : List A) (x : A) (b : Bool)
    → Gathered test 0 n good (length xs) → length xs < n → b ≡ test (length xs) → Gathered test 0 n (good && b) (length (xs ++ (x ∷ [])))
gathered-more test n good xs x b so_far h e = rw (length-append xs (x ∷ []), e) (rw zero-add at (gathered-goes test 0 n good (length xs) so_far h))

-- ---- the same of a run from above a number up to another, by the number that is next

pub record Running (test : ℕ → Bool) (low high n : ℕ) : Type 0 where
  pub above : low < n
  pub count : Counting test (suc low) (high - low) (n - suc low)

pub run-starts : (test : ℕ → Bool) (low high : ℕ) → Running test low high (low + 1)
run-starts test low high =
    let z : low + 1 - suc low ≡ 0 = omega arith in
    record { above = omega arith; count = rw z (count-starts test (suc low) (high - low)) }

module _ (test : ℕ → Bool) (low high n : ℕ) (so_far : Running test low high n) where
  at_next : suc low + (n - suc low) ≡ n
  at_next = omega (arith, so_far.above)

  pub run-stops : n ≤ high → test n ≡ false → false ≡ every_from test (suc low) (high - low)
  run-stops h f = count-stops test (suc low) (high - low) (n - suc low) so_far.count (omega (arith, so_far.above)) (rw at_next f)

  pub run-goes : n ≤ high → test n ≡ true → Running test low high (n + 1)
  run-goes h f =
      let z : n + 1 - suc low ≡ n - suc low + 1 = omega (arith, so_far.above) in
      record {
        above = omega (arith, so_far.above);
        count = rw z (count-goes test (suc low) (high - low) (n - suc low) so_far.count (omega (arith, so_far.above)) (rw at_next f));
      }

  pub run_ends : high < n → true ≡ every_from test (suc low) (high - low)
  run_ends h = count-ends test (suc low) (high - low) (n - suc low) so_far.count (omega (arith, so_far.above))

-- ---- what a run that passed tells, and when one passes

pub each-passes : (test : ℕ → Bool) (first n : ℕ) → every_from test first n ≡ true → (i : ℕ) → i < n → test (first + i) ≡ true
unfolding every_from
each-passes test first zero e i h = absurd (omega arith)
each-passes test first (suc n) e zero h = rw (add-zero first) (part e (λ (f : test first ≡ false). rw f))
each-passes test first (suc n) e (suc i) h =
    let s : first + suc i ≡ suc first + i = omega arith in
    rw s (each-passes test (suc first) n (part e (λ (f : every_from test (suc first) n ≡ false). simp (f, and-false))) i (omega arith))

-- by the number itself
pub run-passes : (test : ℕ → Bool) (low many : ℕ) → every_from test (suc low) many ≡ true → (n : ℕ) → low < n → n ≤ low + many → test n ≡ true
run-passes test low many e n above below =
    let at : suc low + (n - suc low) ≡ n = omega arith in
    rw at at (each-passes test (suc low) many e (n - suc low) (omega arith))

pub all-pass : (test : ℕ → Bool) (first n : ℕ) → ((i : ℕ) → i < n → test (first + i) ≡ true) → every_from test first n ≡ true
unfolding every_from
all-pass test first zero p = refl
all-pass test first (suc n) p = rw (rw (add-zero first) at (p 0 (omega arith)), all-pass test (suc first) n later)
  where
    later : (i : ℕ) → i < n → test (suc first + i) ≡ true
    later i h =
        let s : first + suc i ≡ suc first + i = omega arith in
        rw s at (p (suc i) (omega arith))

-- two tests that agree on the run
pub all_same : (test other : ℕ → Bool) (first n : ℕ) → ((i : ℕ) → i < n → test (first + i) ≡ other (first + i)) → every_from test first n ≡ every_from other first n
unfolding every_from
all_same test other first zero p = refl
all_same test other first (suc n) p = rw (rw (add-zero first) at (p 0 (omega arith)), all_same test other (suc first) n later)
  where
    later : (i : ℕ) → i < n → test (suc first + i) ≡ other (suc first + i)
    later i h =
        let s : first + suc i ≡ suc first + i = omega arith in
        rw s at (p (suc i) (omega arith))
