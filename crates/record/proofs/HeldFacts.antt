-- The tests of the held messages in a whole record, and what they tell.
use Prim.Native.Nat.{ℕ, zero, suc, ◌+◌, ◌-◌, ◌<◌, ◌≤◌}
use mathlib.Core.Path.{◌≡◌, refl, sym, ◌∙◌}
use mathlib.Core.Logic.{◌≢◌}
use mathlib.Core.Bool.{Bool, true, false, not, ◌||◌, ◌&&◌, false≢true, or-true, and-false}
use mathlib.Core.List.{List, [], ◌∷◌}
use borrow.Author.Tests.{leb-true, eqb-true, eqb-false, le-leb, eq-eqb, ne_eqb, not-false}
use native.Mathlib.Nat.{zero-add}
use native.Mathlib.Omega.{arith}
use lib.ListN.{length, get_or}
use lib.Dec.{leb, eqb}
use Rattle.words.specs.Scan.{every, all_within}
use Rattle.frames.specs.Number.{most_number, most_id}
use Rattle.frames.specs.Layout.{most_service, most_content}
use Rattle.frames.proofs.Facts.{part}
use Rattle.record.specs.Size.{most_held, held_contents}
use Rattle.record.specs.Held.{in_use, holds, held_numbers}
use Rattle.record.specs.Members.{is_member}
use Rattle.record.specs.Whole.{held_in_range, numbers_in_range, senders_are_members, held_to_level, free_places_zero}
use Rattle.record.specs.declared.log.Held.{Held}
use Rattle.record.specs.declared.log.Log.{Log}
use Rattle.record.proofs.CountLaws.{each-passes, run-passes, all-pass}
use Rattle.record.proofs.ListLaws.{all-within}
use Rattle.record.proofs.RangeFacts.{HeldRange}
use Rattle.record.proofs.HeldNumbers.{held-within}
use Rattle.record.proofs.LogWhole.{holding, either}

-- ---- either of two tests

-- if the first is false, the second is true
or-when : (a b : Bool) → (a ≡ false → b ≡ true) → a || b ≡ true
or-when true b e = refl
or-when false b e = e refl

-- the first of two tests, where the second does not excuse it
pub first_of : (a b : Bool) → a || not b ≡ true → b ≡ true → a ≡ true
first_of true b e f = refl
first_of false b e f = absurd (false≢true (rw f at e))

-- ---- the held messages

-- a test of all, which 0 passes
every-at : (test : ℕ → Bool) (s : List ℕ) → test 0 ≡ true → every (λ x after. test x) s ≡ true → (i : ℕ) → test (get_or s i 0) ≡ true
unfolding every
every-at test [] none e i = none
every-at test (x ∷ s) none e zero = part e (λ (f : test x ≡ false). rw f)
every-at test (x ∷ s) none e (suc i) = every-at test s none (part e (λ (f : every (λ z after. test z) s ≡ false). simp (f, and-false))) i

every-from : (test : ℕ → Bool) (s : List ℕ) → ((i : ℕ) → test (get_or s i 0) ≡ true) → every (λ x after. test x) s ≡ true
unfolding every
every-from test [] all = refl
every-from test (x ∷ s) all = rw (all 0, every-from test s (λ i. all (suc i)))

module _ (members s : List ℕ) where
  pub senders-known : senders_are_members members s ≡ true → (i : ℕ) → get_or s i 0 ≢ 0 → is_member members (get_or s i 0) ≡ true
  unfolding senders_are_members
  senders-known e i some =
      either (eqb (get_or s i 0) 0) (is_member members (get_or s i 0)) (every-at (λ x. eqb x 0 || is_member members x) s refl e i) (ne_eqb (get_or s i 0) 0 some)

  pub known-senders : ((i : ℕ) → get_or s i 0 ≢ 0 → is_member members (get_or s i 0) ≡ true) → senders_are_members members s ≡ true
  unfolding senders_are_members
  known-senders known =
      every-from (λ x. eqb x 0 || is_member members x) s
      (λ i. or-when (eqb (get_or s i 0) 0) (is_member members (get_or s i 0)) (λ f. known i (eqb-false (get_or s i 0) 0 f)))

-- what the test of a place tells
place-zero : (used : Bool) (a b : ℕ) → used || (eqb a 0 && eqb b 0) ≡ true → used ≡ false → (a ≡ 0) × (b ≡ 0)
place-zero used a b e f =
    let both = either used (eqb a 0 && eqb b 0) e f in
    (eqb-true a 0 (part both (λ (g : eqb a 0 ≡ false). rw g)), eqb-true b 0 (part both (λ (g : eqb b 0 ≡ false). simp (g, and-false))))

module _ (h : Held) where
  pub free-zero : free_places_zero h ≡ true → (place : ℕ) → place < most_held → get_or h.senders place 0 ≡ 0 → (get_or h.services place 0 ≡ 0) × (get_or h.lengths place 0 ≡ 0)
  unfolding free_places_zero
  free-zero e place inside none =
      let passed = each-passes (λ p. in_use h p || (eqb (get_or h.services p 0) 0 && eqb (get_or h.lengths p 0) 0)) 0 most_held e place inside in
      place-zero (in_use h place) (get_or h.services place 0) (get_or h.lengths place 0) (rw zero-add at passed) (rw (eq-eqb (get_or h.senders place 0) 0 none))

  pub zero-free : ((place : ℕ) → place < most_held → get_or h.senders place 0 ≡ 0 → (get_or h.services place 0 ≡ 0) × (get_or h.lengths place 0 ≡ 0)) → free_places_zero h ≡ true
  unfolding free_places_zero
  zero-free free =
      all-pass (λ p. in_use h p || (eqb (get_or h.services p 0) 0 && eqb (get_or h.lengths p 0) 0)) 0 most_held (λ place inside. rw zero-add (or-when (in_use h place) _ (zeros place inside)))
    where
      zeros : (place : ℕ) → place < most_held → in_use h place ≡ false → eqb (get_or h.services place 0) 0 && eqb (get_or h.lengths place 0) 0 ≡ true
      zeros place inside f =
          let z = free place inside (eqb-true (get_or h.senders place 0) 0 (not-false (eqb (get_or h.senders place 0) 0) f)) in
          rw (eq-eqb (get_or h.services place 0) 0 z.0, eq-eqb (get_or h.lengths place 0) 0 z.1)

  pub held-in-range : HeldRange h → held_in_range h ≡ true
  unfolding held_in_range
  held-in-range r =
      rw (
        eq-eqb (length h.senders) most_held r.arrays.senders,
        eq-eqb (length h.services) most_held r.arrays.services,
        eq-eqb (length h.lengths) most_held r.arrays.lengths,
        eq-eqb (length h.contents) held_contents r.arrays.contents,
        all-within most_id h.senders r.senders,
        all-within most_service h.services r.services,
        all-within most_content h.lengths r.lengths,
      )

-- ---- the log

module _ (l : Log) (most : ℕ) where
  pub within_held : all_within 1 most (held_numbers l) ≡ true → (n : ℕ) → holds l n ≡ true → n ≤ most
  within_held e n held =
      let h = holding l n held in
      leb-true n most (first_of (leb n most) (holds l n) (run-passes (λ k. leb k most || not (holds l k)) l.safe.0 most_held (sym (held-within l most) ∙ e) n h.low h.high) held)

  pub held-within-most : ((n : ℕ) → holds l n ≡ true → n ≤ most) → all_within 1 most (held_numbers l) ≡ true
  held-within-most few =
      held-within l most ∙ all-pass (λ k. leb k most || not (holds l k)) (suc l.safe.0) most_held (λ i inside. excused (suc l.safe.0 + i) (holds l (suc l.safe.0 + i)) refl)
    where
      excused : (n : ℕ) (b : Bool) → holds l n ≡ b → leb n most || not (holds l n) ≡ true
      excused n true e = rw (le-leb n most (few n e))
      excused n false e = simp (e, or-true)

module _ (l : Log) where
  pub numbers-most : numbers_in_range l ≡ true → (n : ℕ) → holds l n ≡ true → n ≤ most_number
  unfolding numbers_in_range
  numbers-most e n held = within_held l most_number e n held

  pub most-numbers : ((n : ℕ) → holds l n ≡ true → n ≤ most_number) → numbers_in_range l ≡ true
  unfolding numbers_in_range
  most-numbers most = held-within-most l most_number most

  pub levels-held : held_to_level l ≡ true → (n : ℕ) → l.safe.0 < n → n ≤ l.level.0 → holds l n ≡ true
  unfolding held_to_level
  levels-held e n low high = run-passes (holds l) l.safe.0 (l.level.0 - l.safe.0) e n low (omega arith)

  pub held-levels : ((n : ℕ) → l.safe.0 < n → n ≤ l.level.0 → holds l n ≡ true) → held_to_level l ≡ true
  unfolding held_to_level
  held-levels held = all-pass (holds l) (suc l.safe.0) (l.level.0 - l.safe.0) (λ i inside. held (suc l.safe.0 + i) (omega arith) (omega arith))
