-- How many of a run of numbers pass a test, and the same of the places of the numbers that may be held.
use Prim.Native.Nat.{ℕ, zero, suc, ◌+◌, ◌-◌, ◌<◌, ◌≤◌}
use mathlib.Core.Path.{◌≡◌, refl, sym, ap, ◌∙◌}
use mathlib.Core.Bool.{Bool, true, false, not, ◌&&◌, cond, and_comm}
use mathlib.Core.List.{List, ◌∷◌}
use native.Mathlib.Nat.{add-zero, zero-add, sub-zero}
use native.Mathlib.Omega.{arith}
use lib.ListN.{length, get_or}
use lib.Dec.{leb, ltb, eqb}
use Rattle.std.specs.Int.{from_bool}
use Rattle.record.specs.Size.{most_held}
use Rattle.record.specs.Count.{numbers_after, those}
use Rattle.record.specs.Held.{place_of, holds, held_numbers}
use Rattle.record.specs.Panel.{undelivered}
use Rattle.record.specs.declared.log.Log.{Log}
use Rattle.record.proofs.PlaceLaws.{before_in, before-place, past-mark, held-in-place}

-- of n numbers from `first` on, so many pass
unfoldable pub tally : (ℕ → Bool) → ℕ → ℕ → ℕ
tally test first zero = 0
tally test first (suc n) = from_bool (test first) + tally test (suc first) n

-- ---- a loop that counts

pub record Tallied (test : ℕ → Bool) (first n count i : ℕ) : Type 0 where
  pub within : i ≤ n
  pub few : count ≤ i
  pub rest : count + tally test (first + i) (n - i) ≡ tally test first n

pub tally-starts : (test : ℕ → Bool) (first n : ℕ) → Tallied test first n 0 0
tally-starts test first n = record { within = omega arith; few = omega arith; rest = rw (zero-add, add-zero first, sub-zero n) refl }

pub one-most : (b : Bool) → from_bool b ≤ 1
one-most true = omega arith
one-most false = omega arith

tally-next : (test : ℕ → Bool) (first n i : ℕ) → i < n → tally test (first + i) (n - i) ≡ from_bool (test (first + i)) + tally test (first + (i + 1)) (n - (i + 1))
unfolding tally
tally-next test first n i h =
    let e : n - i ≡ suc (n - (i + 1)) = omega arith in
    let s : first + (i + 1) ≡ suc (first + i) = omega arith in
    rw (e, s)

module _ (test : ℕ → Bool) (first n count i : ℕ) (so_far : Tallied test first n count i) where
  pub tally-goes : i < n → Tallied test first n (count + from_bool (test (first + i))) (i + 1)
  tally-goes h =
      record {
        within = omega arith;
        few = omega (arith, so_far.few, one-most (test (first + i)));
        rest = omega (arith, so_far.rest, tally-next test first n i h);
      }

  pub tally-ends : n ≤ i → count ≡ tally test first n
  unfolding tally
  tally-ends h =
      let e : n - i ≡ 0 = omega arith in
      sym (add-zero count) ∙ rw e at so_far.rest

pub tally-most : (test : ℕ → Bool) (first n : ℕ) → tally test first n ≤ n
unfolding tally
tally-most test first zero = omega arith
tally-most test first (suc n) = omega (arith, one-most (test first), tally-most test (suc first) n)

pub tally-none : (test : ℕ → Bool) (first n : ℕ) → ((x : ℕ) → test x ≡ false) → tally test first n ≡ 0
unfolding tally
tally-none test first zero none = refl
tally-none test first (suc n) none = rw (none first) (omega (arith, tally-none test (suc first) n none))

-- ---- two runs

pub tally-same : (test other : ℕ → Bool) (first start n : ℕ) → ((i : ℕ) → i < n → test (first + i) ≡ other (start + i)) → tally test first n ≡ tally other start n
unfolding tally
tally-same test other first start zero p = refl
tally-same test other first start (suc n) p = rw (rw (add-zero first, add-zero start) at (p 0 (omega arith)), tally-same test other (suc first) (suc start) n later)
  where
    later : (i : ℕ) → i < n → test (suc first + i) ≡ other (suc start + i)
    later i h =
        let s : first + suc i ≡ suc first + i = omega arith in
        let t : start + suc i ≡ suc start + i = omega arith in
        rw (s, t) at (p (suc i) (omega arith))

pub tally-split : (test : ℕ → Bool) (first m n : ℕ) → tally test first (m + n) ≡ tally test first m + tally test (first + m) n
unfolding tally
tally-split test first zero n = rw (zero-add n, add-zero first) (omega arith)
tally-split test first (suc m) n =
    let s : first + suc m ≡ suc first + m = omega arith in
    let t : suc m + n ≡ suc (m + n) = omega arith in
    rw (s, t) (omega (arith, tally-split test (suc first) m n))

-- ---- by place: the numbers from safe mark + 1 on have the places from their first one's to the last, then from 0 on

pub tally-by-place : (safe : ℕ) (asked question : ℕ → Bool)
    → ((j : ℕ) → j < most_held → asked (place_of (suc safe + j)) ≡ question (suc safe + j))
    → tally asked 0 most_held ≡ tally question (suc safe) most_held
tally-by-place safe asked question same =
    let p = place_of (suc safe) in
    let k = most_held - p in
    let low : p < most_held = omega arith in
    let all : p + k ≡ most_held = omega arith in
    let turned : k + p ≡ most_held = omega arith in
    let places : tally asked 0 (p + k) ≡ tally asked 0 p + tally asked p k = rw zero-add at (tally-split asked 0 p k) in
    let numbers : tally question (suc safe) (k + p) ≡ tally question (suc safe) k + tally question (suc safe + k) p = tally-split question (suc safe) k p in
    let upper : tally asked p k ≡ tally question (suc safe) k =
    tally-same asked question p (suc safe) k (λ j h. let at : place_of (suc safe + j) ≡ p + j = omega arith in rw at at (same j (omega arith))) in
    let lower : tally asked 0 p ≡ tally question (suc safe + k) p =
    tally-same asked question 0 (suc safe + k) p (λ j h.
    let at : place_of (suc safe + (k + j)) ≡ 0 + j = omega arith in
    let there : suc safe + (k + j) ≡ suc safe + k + j = omega arith in
    rw (at, there) at (same (k + j) (omega arith))) in
    ap (tally asked 0) (sym all) ∙ omega (arith, places, numbers, upper, lower) ∙ ap (tally question (suc safe)) turned

-- ---- what is held and not delivered

tally-those : (test other : ℕ → Bool) (last n : ℕ) → length (those other (those test (numbers_after last n))) ≡ tally (λ x. test x && other x) (suc last) n
unfolding those numbers_after tally
tally-those test other last zero = refl
tally-those test other last (suc n) = go (test (suc last)) (other (suc last)) refl refl (tally-those test other (suc last) n)
  where
    go : (a b : Bool) → test (suc last) ≡ a → other (suc last) ≡ b
        → length (those other (those test (numbers_after (suc last) n))) ≡ tally (λ x. test x && other x) (suc (suc last)) n
        → length (those other (cond (test (suc last)) (suc last ∷ those test (numbers_after (suc last) n)) (those test (numbers_after (suc last) n))))
        ≡ from_bool (test (suc last) && other (suc last)) + tally (λ x. test x && other x) (suc (suc last)) n
    go true true e f rest = rw (e, f) (omega (arith, rest))
    go true false e f rest = rw (e, f) (omega (arith, rest))
    go false b e f rest = rw e (omega (arith, rest))

-- the question of a place, as the code asks
abbrev pub place_undelivered : List ℕ → ℕ → ℕ → ℕ → Bool
place_undelivered senders past safe i = leb past (before_in safe i) && not (eqb (get_or senders i 0) 0)

module _ (l : Log) where
  abbrev past : ℕ
  past = l.delivered.0 - l.safe.0

  abbrev number : ℕ → ℕ
  number j = suc l.safe.0 + j

  same : (j : ℕ) → j < most_held → place_undelivered l.held.senders past l.safe.0 (place_of (number j)) ≡ (holds l (number j) && ltb l.delivered.0 (number j))
  same j h = rw (before-place l.safe.0 j h, past-mark l.safe.0 l.delivered.0 j, held-in-place l j h) (and_comm (ltb l.delivered.0 (number j)) (not (eqb (get_or l.held.senders (place_of (number j)) 0) 0)))

  pub undelivered-by-place : (count : ℕ)
      → count ≡ tally (place_undelivered l.held.senders (l.delivered.0 - l.safe.0) l.safe.0) 0 most_held
      → count ≡ undelivered l
  unfolding undelivered held_numbers
  undelivered-by-place count e =
      e
      ∙ tally-by-place l.safe.0 _ (λ n. holds l n && ltb l.delivered.0 n) same
      ∙ sym (tally-those (holds l) (ltb l.delivered.0) l.safe.0 most_held)

  -- where nothing is held
  pub undelivered-none : ((n : ℕ) → holds l n ≡ false) → undelivered l ≡ 0
  unfolding undelivered held_numbers
  undelivered-none none =
      tally-those (holds l) (ltb l.delivered.0) l.safe.0 most_held
      ∙ tally-none (λ n. holds l n && ltb l.delivered.0 n) (suc l.safe.0) most_held (λ n. rw (none n))

  pub undelivered-most : undelivered l ≤ most_held
  unfolding undelivered held_numbers
  undelivered-most = omega (arith, tally-those (holds l) (ltb l.delivered.0) l.safe.0 most_held, tally-most (λ n. holds l n && ltb l.delivered.0 n) (suc l.safe.0) most_held)
