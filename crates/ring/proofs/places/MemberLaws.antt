-- The list of members as bytes, and the place of an id.
use Prim.Native.Nat.{ℕ, zero, suc, ◌+◌, ◌*◌, ◌/◌, ◌%◌, ◌<◌, ◌≤◌}
use mathlib.Core.Path.{◌≡◌, refl, sym, ◌∙◌}
use mathlib.Core.List.{List}
use borrow.Author.Tests.{eq-eqb, ne_eqb}
use native.Mathlib.Numerals.{add-one}
use native.Mathlib.Decide.{dec_lt}
use native.Mathlib.Omega.{arith}
use lib.ListN.{length, get_or, drop, drop_of_length-le}
use lib.Seq.{drop-cons, drop-drop}
use Rattle.std.proofs.Common.{Option, None, Some, Bool, true, false}
use Rattle.std.specs.List.{slice_get}
use Rattle.std.specs.Option.{option_eq, MatchOption}
use Rattle.std.proofs.lemmas.Option.{slice_get-get_or}
use lib.Dec.{eqb}
use Rattle.words.specs.Word.{word_at}
use Rattle.words.specs.Run.{words, words_as}
use Rattle.words.proofs.RunLaws.{length-words}
use Rattle.station.specs.Over.{ids_in}
use Rattle.ring.specs.Stations.{place_from}

pub ids-odd : (s : List ℕ) → (length s % 2 ≡ 0 → ⊥) → 0 ≡ length (ids_in s)
unfolding ids_in
ids-odd s odd = rw (ne_eqb (length s % 2) 0 odd)

pub ids-even : (s : List ℕ) → length s % 2 ≡ 0 → length s / 2 ≡ length (ids_in s)
unfolding ids_in
ids-even s even = rw (eq-eqb (length s % 2) 0 even) (sym (length-words 2 (length s / 2) s))

words-in : (s : List ℕ) → length s % 2 ≡ 0 → ids_in s ≡ words 2 (length s / 2) s
unfolding ids_in
words-in s even = rw (eq-eqb (length s % 2) 0 even)

-- an id stands at twice its place
word_of : (n : ℕ) (s : List ℕ) (p : ℕ) → p < n → get_or (words 2 n s) p 0 ≡ word_at 2 s (2 * p)
unfolding words_as word_at
word_of zero s p h = absurd (omega arith)
word_of (suc n) s zero h = refl
word_of (suc n) s (suc p) h =
    let e : 2 + 2 * p ≡ 2 * suc p = omega arith in
    word_of n (drop 2 s) p (omega arith) ∙ rw (drop-drop (2 * p) 2 s, e)

-- there are ids only in an even list
ids-there : (s : List ℕ) (p : ℕ) → p < length (ids_in s) → (ids_in s ≡ words 2 (length s / 2) s) × (p < length s / 2)
ids-there s p h =
    elim (dec_lt (length s % 2) 1) [
      | yes even ↦
          let e : length s % 2 ≡ 0 = omega arith in
          let long = ids-even s e in
          (words-in s e, omega arith)
      | no odd ↦ absurd (omega (arith, ids-odd s (omega arith)))
    ]

pub id-room : (s : List ℕ) (p : ℕ) → p < length (ids_in s) → 2 * p + 2 ≤ length s
id-room s p h = omega (arith, (ids-there s p h).1)

pub id-there : (s : List ℕ) (p : ℕ) → p < length (ids_in s) → word_at 2 s (2 * p) ≡ get_or (ids_in s) p 0
id-there s p h =
    let there = ids-there s p h in
    rw there.0 (sym (word_of (length s / 2) s p there.1))

-- ---- a loop that looks for an id: from here on it is at the place where it is in the whole

looking-stops : (ids : List ℕ) (id i : ℕ) → place_from i (drop i ids) id ≡ place_from 0 ids id → i < length ids → eqb (get_or ids i 0) id ≡ true → Some i ≡ place_from 0 ids id
unfolding place_from
looking-stops ids id i inv h e = rw (drop-cons ids i 0 h, e) at inv

looking-goes : (ids : List ℕ) (id i : ℕ) → place_from i (drop i ids) id ≡ place_from 0 ids id → i < length ids → eqb (get_or ids i 0) id ≡ false → place_from (i + 1) (drop (i + 1) ids) id ≡ place_from 0 ids id
unfolding place_from
looking-goes ids id i inv h e = rw (add-one i) (rw (drop-cons ids i 0 h, e) at inv)

looking-ends : (ids : List ℕ) (id i : ℕ) → place_from i (drop i ids) id ≡ place_from 0 ids id → length ids ≤ i → None ≡ place_from 0 ids id
unfolding place_from
looking-ends ids id i inv h = rw (drop_of_length-le ids h) at inv

module _ (ids : List ℕ) (id : ℕ) where
  -- the test at a place, as the code spells it
  abbrev pub test : ℕ → Bool
  test k = option_eq eqb (slice_get ids k) (Some id)

  test-is : (k : ℕ) → k < length ids → (b : Bool) → test k ≡ b → eqb (get_or ids k 0) id ≡ b
  test-is k h b e = rw (slice_get-get_or ids k 0 h) at e

  passed : (i : ℕ) → i ≤ length ids → ((k : ℕ) → 0 ≤ k → k < i → test k ≡ false) → place_from i (drop i ids) id ≡ place_from 0 ids id
  passed zero h none = refl
  passed (suc i) h none = rw (← add-one i) (looking-goes ids id i (passed i (omega arith) (λ k a b. none k a (omega arith))) (omega arith) (test-is i (omega arith) false (none i (omega arith) (omega arith))))

  -- the first place where the test holds
  pub found-first : (n : ℕ) (r : Option ℕ)
      → n ≡ length ids
      → MatchOption r ((k : ℕ) → 0 ≤ k → k < n → test k ≡ false) (λ i. (0 ≤ i) × (i < n) × (test i ≡ true) × ((k : ℕ) → 0 ≤ k → k < i → test k ≡ false))
      → r ≡ place_from 0 ids id
  found-first n None e none = looking-ends ids id n (passed n (omega arith) none) (omega arith)
  found-first n (Some i) e m =
      let here : i < length ids = omega (arith, m.1) in
      looking-stops ids id i (passed i (omega arith) m.3) here (test-is i here true m.2)
