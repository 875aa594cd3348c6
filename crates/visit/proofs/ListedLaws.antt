-- Lists of requests, as the loops fill them.
use Prim.Native.Nat.{ℕ, suc, ◌+◌, ◌-◌, ◌<◌, ◌≤◌}
use mathlib.Core.Path.{◌≡◌, refl, sym, ◌∙◌}
use mathlib.Core.Bool.{Bool, true, false, cond}
use mathlib.Core.List.{List, [], ◌∷◌, ◌++◌, append-nil}
use native.Mathlib.Numerals.{add-one}
use native.Mathlib.Omega.{arith}
use lib.ListN.{length, get_or, take, length-append, length-take}
use lib.Seq.{take_all, take_at, take-suc, append_snoc}
use Rattle.frames.specs.Layout.{most_requests}
use Rattle.record.specs.Count.{those, numbers_after}
use Rattle.visit.proofs.EachLaws.{those-length}

-- ---- those that pass

pub those-append : (test : ℕ → Bool) (xs ys : List ℕ) → those test (xs ++ ys) ≡ those test xs ++ those test ys
unfolding those
those-append test [] ys = refl
those-append test (x ∷ xs) ys = go (test x) (those-append test xs ys)
  where
    go : (b : Bool) → those test (xs ++ ys) ≡ those test xs ++ those test ys → cond b (x ∷ those test (xs ++ ys)) (those test (xs ++ ys)) ≡ cond b (x ∷ those test xs) (those test xs) ++ those test ys
    go true e = rw e
    go false e = e

-- of the first i
module _ (test : ℕ → Bool) (xs : List ℕ) where
  pub those-none : [] ≡ those test (take 0 xs)
  unfolding those
  those-none = refl

  module _ (i : ℕ) (ys : List ℕ) (so_far : ys ≡ those test (take i xs)) where
    module _ (h : i < length xs) where
      pub those-few : length xs ≤ most_requests → length ys < most_requests
      those-few few = rw so_far (omega (arith, those-length test (take i xs), length-take i xs))

      next : those test (take (i + 1) xs) ≡ ys ++ those test (get_or xs i 0 ∷ [])
      next = rw (add-one i, take-suc xs i 0 h, so_far) (those-append test (take i xs) (get_or xs i 0 ∷ []))

      pub those-takes : test (get_or xs i 0) ≡ true → ys ++ (get_or xs i 0 ∷ []) ≡ those test (take (i + 1) xs)
      unfolding those
      those-takes pass = sym (next ∙ rw pass)

      pub those-leaves : test (get_or xs i 0) ≡ false → ys ≡ those test (take (i + 1) xs)
      unfolding those
      those-leaves fail = sym (next ∙ rw fail (append-nil ys))

-- ---- missing numbers, as far as there are places

pub record Adding (test : ℕ → Bool) (asked : List ℕ) (level top : ℕ) (all : List ℕ) (last : ℕ) : Type 0 where
  pub few : length all ≤ most_requests
  pub whole : take most_requests (all ++ those test (numbers_after last (top - last))) ≡ take most_requests (asked ++ those test (numbers_after level (top - level)))

module _ (test : ℕ → Bool) (asked : List ℕ) (level top : ℕ) (all : List ℕ) (last : ℕ) (a : Adding test asked level top all last) where
  pub adding-full : most_requests ≤ length all → all ≡ take most_requests (asked ++ those test (numbers_after level (top - level)))
  adding-full full =
      let size : length all ≡ most_requests = omega (arith, a.few) in
      sym (take_at all (those test (numbers_after last (top - last))) most_requests size) ∙ a.whole

  pub adding-ends : top ≤ last → all ≡ take most_requests (asked ++ those test (numbers_after level (top - level)))
  unfolding numbers_after those
  adding-ends h =
      let none : top - last ≡ 0 = omega arith in
      sym (take_all most_requests all a.few) ∙ (rw (none, append-nil all) at a.whole)

  module _ (more : last < top) where
    left : numbers_after last (top - last) ≡ (last + 1) ∷ numbers_after (last + 1) (top - (last + 1))
    unfolding numbers_after
    left = let e : top - last ≡ suc (top - (last + 1)) = omega arith in rw (e, add-one last)

    pub adding-skips : test (last + 1) ≡ false → Adding test asked level top all (last + 1)
    unfolding those
    adding-skips fail = record { few = a.few; whole = rw (left, fail) at a.whole }

    pub adding-adds : length all < most_requests → test (last + 1) ≡ true → Adding test asked level top (all ++ ((last + 1) ∷ [])) (last + 1)
    unfolding those
    adding-adds free pass = record {
      few = omega (arith, length-append all ((last + 1) ∷ []));
      whole = rw (append_snoc all (last + 1) (those test (numbers_after (last + 1) (top - (last + 1))))) (rw (left, pass) at a.whole);
    }
