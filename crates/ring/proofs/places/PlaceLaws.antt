-- Records one after another in lent bytes: the part of a place as the code spells it, and what a call there leaves.
use Prim.Native.Nat.{ℕ, ◌+◌, ◌*◌, ◌-◌, ◌<◌, ◌≤◌, min}
use mathlib.Core.Path.{◌≡◌, refl, ap, ◌∙◌}
use mathlib.Core.List.{List, [], ◌∷◌, ◌++◌, append-nil}
use native.Mathlib.Decide.{dec_lt}
use native.Mathlib.Omega.{arith}
use lib.ListN.{length, take, drop, length-append, length-take, length-drop, take-append-drop, drop_of_length-le}
use lib.Seq.{take_all, take-nil, length-take-le, take_at, drop_at, drop-drop}
use Rattle.std.proofs.lemmas.List.{take_min, drop_min}
use Rattle.record.specs.Layout.{record_size}
use Rattle.station.specs.Reply.{Reply}
use Rattle.station.specs.Reply.{station_after}
use Rattle.ring.specs.Stations.{record_at, with_record, records_after}

-- ---- the part from `from` to `to`, where a place begins and ends

module _ (at size : ℕ) (l : List ℕ) (from to : ℕ) (f : from ≡ min at (length l)) (t : to ≡ min (at + size) (length l)) where
  part-is : take (to - from) (drop from l) ≡ take size (drop at l)
  part-is =
      let n : to - from ≡ min size (length (drop at l)) = rw length-drop (omega arith) in
      let d : drop from l ≡ drop at l = rw f (drop_min at l) in
      rw (d, n) (take_min size (drop at l))

  before-is : take from l ≡ take at l
  before-is = rw f (take_min at l)

  after_is : drop (to - from) (drop from l) ≡ drop (at + size) l
  after_is =
      let e : from + (to - from) ≡ min (at + size) (length l) = omega arith in
      rw (drop-drop (to - from) from l, e) (drop_min (at + size) l)

-- ---- a call at a place, from the call over bytes on the part

module _ (p : ℕ) (records : List ℕ) (from to : ℕ) (f : from ≡ min (record_size * p) (length records)) (t : to ≡ min (record_size * p + record_size) (length records)) where
  pub part_at : take (to - from) (drop from records) ≡ record_at p records
  part_at = part-is (record_size * p) record_size records from to f t

  -- what is said of the part is said of the record at the place
  pub said_at : (P : List ℕ → Type 0) → P (take (to - from) (drop from records)) → P (record_at p records)
  said_at P h = rw part_at at h

  put-at : (s : List ℕ) → take from records ++ (s ++ drop (to - from) (drop from records)) ≡ with_record p s records
  put-at s = rw (before-is (record_size * p) record_size records from to f t, after_is (record_size * p) record_size records from to f t)

  -- `reply` is what the call answers to bytes
  pub left_at : (reply : List ℕ → Reply) (s' : List ℕ)
      → s' ≡ station_after (reply (take (to - from) (drop from records))) (take (to - from) (drop from records))
      → take from records ++ (s' ++ drop (to - from) (drop from records)) ≡ records_after p (reply (record_at p records)) records
  left_at reply s' e = put-at s' ∙ ap (λ (s : List ℕ). with_record p s records) (rw part_at at e)

-- ---- other bytes at a place, any place and size

abbrev put : ℕ → ℕ → List ℕ → List ℕ → List ℕ
put at size l s = take at l ++ (s ++ drop (at + size) l)

none : (s : List ℕ) → length s ≡ 0 → s ≡ []
none [] e = refl
none (x ∷ s) e = absurd (omega arith)

module _ (at size : ℕ) (l s : List ℕ) (e : length (put at size l s) ≡ length l) where
  -- they are as many as stood there
  fits : length s ≡ min size (length l - at)
  fits = let long = simp (length-append, length-take, length-drop) at e in omega arith

  from-there : at ≤ length l → drop at (put at size l s) ≡ s ++ drop (at + size) l
  from-there h = drop_at (take at l) (s ++ drop (at + size) l) at (length-take-le at l h)

  -- past the end there are none
  unchanged : length l < at → put at size l s ≡ l
  unchanged h =
      let many : length l ≤ at = omega arith in
      let more : length l ≤ at + size = omega arith in
      let empty : s ≡ [] = none s (omega (arith, fits)) in
      rw (take_all at l many, drop_of_length-le l more, empty, append-nil)

  stands : take size (drop at (put at size l s)) ≡ s
  stands =
      elim (dec_lt (length l) at) [
        | yes h ↦
            let many : length l ≤ at = omega arith in
            let empty : s ≡ [] = none s (omega (arith, fits)) in
            rw (unchanged h, drop_of_length-le l many, take-nil, empty)
        | no h ↦ rw (from-there (omega arith)) (ends (omega arith))
      ]
    where
      ends : at ≤ length l → take size (s ++ drop (at + size) l) ≡ s
      ends h =
          elim (dec_lt (length l) (at + size)) [
            | yes g ↦
                let more : length l ≤ at + size = omega arith in
                let few : length s ≤ size = omega (arith, fits) in
                rw (drop_of_length-le l more, append-nil, take_all size s few)
            | no g ↦ take_at s (drop (at + size) l) size (omega (arith, fits))
          ]

  before : take at (put at size l s) ≡ take at l
  before =
      elim (dec_lt (length l) at) [
        | yes h ↦ rw (unchanged h)
        | no h ↦ take_at (take at l) (s ++ drop (at + size) l) at (length-take-le at l (omega arith))
      ]

  after : drop (at + size) (put at size l s) ≡ drop (at + size) l
  after =
      elim (dec_lt (length l) at) [
        | yes h ↦ rw (unchanged h)
        | no h ↦ rw (← drop-drop size at (put at size l s), from-there (omega arith)) (ends (omega arith))
      ]
    where
      ends : at ≤ length l → drop size (s ++ drop (at + size) l) ≡ drop (at + size) l
      ends h =
          elim (dec_lt (length l) (at + size)) [
            | yes g ↦
                let more : length l ≤ at + size = omega arith in
                let few : length s ≤ size = omega (arith, fits) in
                rw (drop_of_length-le l more, append-nil, drop_of_length-le s few)
            | no g ↦ drop_at s (drop (at + size) l) size (omega (arith, fits))
          ]

put_same : (at size : ℕ) (l : List ℕ) → l ≡ put at size l (take size (drop at l))
put_same at size l = rw (← drop-drop size at l, take-append-drop size (drop at l), take-append-drop at l)

-- ---- what stands at a place

module _ (p : ℕ) (records : List ℕ) where
  -- put back as it is, it changes nothing
  pub with-same : records ≡ with_record p (record_at p records) records
  with-same = put_same (record_size * p) record_size records

  module _ (s : List ℕ) (e : length (with_record p s records) ≡ length records) where
    -- what is put there stands there
    pub at_with : record_at p (with_record p s records) ≡ s
    at_with = stands (record_size * p) record_size records s e

    -- what is put there last stays
    pub with-with : (t : List ℕ) → with_record p t (with_record p s records) ≡ with_record p t records
    with-with t = rw (before (record_size * p) record_size records s e, after (record_size * p) record_size records s e)
