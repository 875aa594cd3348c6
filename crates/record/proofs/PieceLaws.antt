-- Bytes past a content's length, in pieces of 16.
use Prim.Native.Nat.{ℕ, ◌+◌, ◌-◌, ◌<◌, ◌≤◌, min}
use mathlib.Core.Path.{◌≡◌, refl, ◌∙◌}
use mathlib.Core.Bool.{Bool, true, false, ◌&&◌, and-false}
use mathlib.Core.List.{List, ◌++◌}
use borrow.Author.Tests.{le-leb, leb-true, eqb-true}
use native.Mathlib.Nat.{zero-add}
use native.Mathlib.Decide.{dec_lt}
use native.Mathlib.Omega.{arith}
use lib.ListN.{length, get_or, take, drop, replicate, length-take, drop_of_length-le, get_or-eq_default}
use lib.Dec.{leb, eqb}
use lib.Seq.{get_or-take, get_or-drop}
use Rattle.words.specs.Scan.{every, all_zero}
use Rattle.words.proofs.ScanLaws.{within-most}
use Rattle.frames.specs.Layout.{most_content}
use Rattle.frames.proofs.Facts.{part}
use Rattle.record.specs.Count.{every_from}
use Rattle.record.proofs.CountLaws.{each-passes, all-pass}
use Rattle.record.proofs.ListLaws.{all-within}
use Rattle.record.proofs.PlaceLaws.{both_ways}

-- nothing is past it
pub past_all : (s : List ℕ) (n : ℕ) → length s ≡ most_content → most_content ≤ n → true ≡ all_zero (drop n s)
unfolding every
past_all s n long h = rw (drop_of_length-le s {i = n} (omega (arith, long)))

-- ---- a piece or more is past it: four pieces, the last at 48

abbrev pub piece_at : List ℕ → ℕ → List ℕ
piece_at s at = take 16 (drop at s)

module _ (s : List ℕ) (at : ℕ) where
  in-piece : all_zero (piece_at s at) ≡ true → (j : ℕ) → at ≤ j → j < at + 16 → get_or s j 0 ≡ 0
  in-piece e j low high =
      let here : at + (j - at) ≡ j = omega arith in
      let none : get_or s (at + (j - at)) 0 ≤ 0 = rw (get_or-take 16 (drop at s) (j - at) 0 (omega arith), get_or-drop) at (within-most 0 0 (piece_at s at) e (j - at)) in
      omega (arith, rw here at none)

  piece-zero : ((j : ℕ) → at ≤ j → get_or s j 0 ≡ 0) → all_zero (piece_at s at) ≡ true
  piece-zero zero = all-within 0 (piece_at s at) (λ i.
      elim (dec_lt i 16) [
        | yes h ↦ rw (get_or-take 16 (drop at s) i 0 h, get_or-drop at s i 0) (omega (arith, zero (at + i) (omega arith)))
        | no h ↦ omega (arith, get_or-eq_default (piece_at s at) 0 {n = i} (omega (arith, length-take {A = ℕ} 16 (drop at s))))
      ])

module _ (s : List ℕ) (first second third : ℕ) (long : length s ≡ most_content) (near : first ≤ 48) (next : second ≡ min (first + 16) 48) (after : third ≡ min (first + 32) 48) where
  abbrev four : Bool
  four = ((all_zero (piece_at s first) && all_zero (piece_at s second)) && all_zero (piece_at s third)) && all_zero (piece_at s 48)

  pub padded-by-pieces : (((all_zero (piece_at s first) && all_zero (piece_at s second)) && all_zero (piece_at s third)) && all_zero (piece_at s 48)) ≡ all_zero (drop first s)
  padded-by-pieces = both_ways _ _ there back
    where
      there : four ≡ true → all_zero (drop first s) ≡ true
      there all = all-within 0 (drop first s) (λ i. rw (get_or-drop first s i 0) (omega (arith, zero (first + i) (omega arith))))
        where
          zero : (j : ℕ) → first ≤ j → get_or s j 0 ≡ 0
          zero j low =
              elim (dec_lt j most_content) [
                | no h ↦ get_or-eq_default s 0 {n = j} (omega (arith, long))
                | yes h ↦ elim (dec_lt j 48) [
                  | no past ↦ in-piece s 48 (part all (λ (f : all_zero (piece_at s 48) ≡ false). simp (f, and-false))) j (omega arith) (omega arith)
                  | yes before ↦ elim (dec_lt j (first + 16)) [
                    | yes one ↦ in-piece s first (part all (λ (f : all_zero (piece_at s first) ≡ false). rw f)) j low one
                    | no two ↦ elim (dec_lt j (first + 32)) [
                      | yes one ↦ in-piece s second (part all (λ (f : all_zero (piece_at s second) ≡ false). simp (f, and-false))) j (omega (arith, next)) (omega (arith, next))
                      | no three ↦ in-piece s third (part all (λ (f : all_zero (piece_at s third) ≡ false). simp (f, and-false))) j (omega (arith, after)) (omega (arith, after))
                    ]
                  ]
                ]
              ]

      back : all_zero (drop first s) ≡ true → four ≡ true
      back zeros = rw (piece-zero s first zero, piece-zero s second (λ j h. zero j (omega (arith, next))), piece-zero s third (λ j h. zero j (omega (arith, after))), piece-zero s 48 (λ j h. zero j (omega arith)))
        where
          zero : (j : ℕ) → first ≤ j → get_or s j 0 ≡ 0
          zero j h =
              let at : first + (j - first) ≡ j = omega arith in
              let none : get_or s (first + (j - first)) 0 ≤ 0 = rw get_or-drop at (within-most 0 0 (drop first s) zeros (j - first)) in
              omega (arith, rw at at none)

-- ---- less than a piece is past it: limits for the last

abbrev pub limits : List ℕ
limits = replicate 16 255 ++ replicate 16 0

any-byte : (k : ℕ) → k < 16 → get_or limits k 0 ≡ 255
unfolding every_from
any-byte k h = eqb-true (get_or limits k 0) 255 (rw zero-add at (each-passes (λ i. eqb (get_or limits i 0) 255) 0 16 refl k h))

no_byte : (k : ℕ) → k < 16 → get_or limits (16 + k) 0 ≡ 0
unfolding every_from
no_byte k h = eqb-true (get_or limits (16 + k) 0) 0 (each-passes (λ i. eqb (get_or limits i 0) 0) 16 16 refl k h)

module _ (s : List ℕ) (n : ℕ) (long : length s ≡ most_content) (bytes : (i : ℕ) → get_or s i 0 < 256) (most : 48 < n) (short : n < most_content) where
  abbrev from : ℕ
  from = most_content - n

  -- as the code takes them
  abbrev chosen : List ℕ
  chosen = take (from + 16 - from) (drop from limits)

  limit-at : (i : ℕ) → i < 16 → get_or chosen i 0 ≡ get_or limits (from + i) 0
  limit-at i h = get_or-take (from + 16 - from) (drop from limits) i 0 (omega arith) ∙ get_or-drop from limits i 0

  abbrev last : List ℕ
  last = take 16 (drop 48 s)

  last-at : (i : ℕ) → i < 16 → get_or last i 0 ≡ get_or s (48 + i) 0
  last-at i h = get_or-take 16 (drop 48 s) i 0 h ∙ get_or-drop 48 s i 0

  abbrev limited : ℕ → Bool
  limited i = leb (get_or last i 0) (get_or chosen i 0)

  pub padded-by-limits : (r : Bool)
      → r ≡ every_from (λ i. leb (get_or (take 16 (drop 48 s)) i 0) (get_or (take (most_content - n + 16 - (most_content - n)) (drop (most_content - n) limits)) i 0)) 0 16
      → r ≡ all_zero (drop n s)
  padded-by-limits r e = e ∙ both_ways _ _ there back
    where
      there : every_from limited 0 16 ≡ true → all_zero (drop n s) ≡ true
      there all = all-within 0 (drop n s) (λ i.
          rw (get_or-drop n s i 0)
          (elim (dec_lt (n + i) most_content) [
            | yes h ↦
                let k = n + i - 48 in
                let at : 48 + k ≡ n + i = omega arith in
                let limit : from + k ≡ 16 + i = omega arith in
                let passed = leb-true (get_or last k 0) (get_or chosen k 0) (rw zero-add at (each-passes limited 0 16 all k (omega arith))) in
                let none : get_or chosen k 0 ≡ 0 = limit-at k (omega arith) ∙ rw limit (no_byte i (omega arith)) in
                let same : get_or last k 0 ≡ get_or s (n + i) 0 = last-at k (omega arith) ∙ rw at in
                omega (arith, passed, none, same)
            | no h ↦ omega (arith, get_or-eq_default s 0 {n = n + i} (omega (arith, long)))
          ]))

      back : all_zero (drop n s) ≡ true → every_from limited 0 16 ≡ true
      back zeros = all-pass limited 0 16 (λ i i<.
          rw (zero-add i, last-at i i<)
          (elim (dec_lt (48 + i) n) [
            | yes h ↦
                let any : get_or chosen i 0 ≡ 255 = limit-at i i< ∙ any-byte (from + i) (omega arith) in
                le-leb (get_or s (48 + i) 0) (get_or chosen i 0) (omega (arith, any, bytes (48 + i)))
            | no h ↦
                let at : n + (48 + i - n) ≡ 48 + i = omega arith in
                let none : get_or s (n + (48 + i - n)) 0 ≤ 0 = rw get_or-drop at (within-most 0 0 (drop n s) zeros (48 + i - n)) in
                le-leb (get_or s (48 + i) 0) (get_or chosen i 0) (omega (arith, rw at at none))
          ]))
