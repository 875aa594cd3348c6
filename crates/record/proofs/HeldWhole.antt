-- Storing a message at a free place and clearing a place keep the held messages good: in range, senders members, and zero where not in use.
use Prim.Native.Nat.{ℕ, zero, suc, ◌*◌, ◌-◌, ◌<◌, ◌≤◌}
use mathlib.Core.Path.{◌≡◌, sym, ◌∙◌}
use mathlib.Core.Logic.{◌≢◌}
use mathlib.Core.Bool.{true}
use mathlib.Core.List.{List}
use native.Mathlib.Nat.{add-zero}
use native.Mathlib.Decide.{ℕ_discrete}
use native.Mathlib.Omega.{arith}
use lib.ListN.{length, get_or, set, take, drop, replicate, length-set, length-replicate}
use lib.Seq.{sets, get_or-set_same, get_or-set_other}
use Rattle.frames.specs.Number.{most_id}
use Rattle.frames.specs.Layout.{most_service, most_content}
use Rattle.record.specs.Size.{most_held}
use Rattle.record.specs.Contents.{padding}
use Rattle.record.specs.Members.{is_member}
use Rattle.record.specs.Held.{Entry, place_of, held_with, cleared, cleared_from}
use Rattle.record.specs.Whole.{contents_padded}
use Rattle.record.specs.declared.log.Held.{Held}
use Rattle.record.proofs.RangeFacts.{HeldRange}
use Rattle.record.proofs.ListLaws.{part-written, place-apart, Most, most-set, most-zeros}
use Rattle.record.proofs.PaddedLaws.{padded-at, padded-from, padded-with}
use Rattle.record.proofs.HeldLaws.{held-sizes, sizes-with, sizes-cleared}

-- a message that may be held
pub record EntryGood (members : List ℕ) (e : Entry) : Type 0 where
  pub named : e.sender ≢ 0
  pub sender : e.sender ≤ most_id
  pub member : is_member members e.sender ≡ true
  pub service : e.service ≤ most_service
  pub short : length e.content ≤ most_content

pub record HeldGood (members : List ℕ) (h : Held) : Type 0 where
  pub range : HeldRange h
  pub known : (place : ℕ) → get_or h.senders place 0 ≢ 0 → is_member members (get_or h.senders place 0) ≡ true
  pub free : (place : ℕ) → place < most_held → get_or h.senders place 0 ≡ 0 → (get_or h.services place 0 ≡ 0) × (get_or h.lengths place 0 ≡ 0)
  pub padded : contents_padded h.lengths h.contents ≡ true

-- ---- one more, at a free place

module _ (members : List ℕ) (h : Held) (place : ℕ) (e : Entry) (good : HeldGood members h) (inside : place < most_held)
    (free : get_or h.senders place 0 ≡ 0) (fits : EntryGood members e) where
  with-range : HeldRange (held_with h place e)
  unfolding held_with
  with-range =
      let r = good.range in
      let s = sizes-with h place e (held-sizes h r) fits.short in
      record {
        arrays = s.arrays;
        senders = most-set most_id h.senders place e.sender r.senders fits.sender;
        services = most-set most_service h.services place e.service r.services fits.service;
        lengths = s.short;
      }

  with-known : (p : ℕ) → get_or (held_with h place e).senders p 0 ≢ 0 → is_member members (get_or (held_with h place e).senders p 0) ≡ true
  unfolding held_with
  with-known p some =
      elim (ℕ_discrete p place) [
        | yes q ↦ rw (q, get_or-set_same h.senders place e.sender 0 (omega (arith, good.range.arrays.senders))) fits.member
        | no q ↦ rw (get_or-set_other h.senders place p e.sender 0 q) (good.known p (rw (get_or-set_other h.senders place p e.sender 0 q) at some))
      ]

  with-free : (p : ℕ) → p < most_held → get_or (held_with h place e).senders p 0 ≡ 0 → (get_or (held_with h place e).services p 0 ≡ 0) × (get_or (held_with h place e).lengths p 0 ≡ 0)
  unfolding held_with
  with-free p p< none =
      elim (ℕ_discrete p place) [
        | yes q ↦ absurd (fits.named (sym (get_or-set_same h.senders place e.sender 0 (omega (arith, good.range.arrays.senders))) ∙ rw q at none))
        | no q ↦
            rw (get_or-set_other h.services place p e.service 0 q, get_or-set_other h.lengths place p (length e.content) 0 q)
            (good.free p p< (rw (get_or-set_other h.senders place p e.sender 0 q) at none))
      ]

  with-padded : contents_padded (held_with h place e).lengths (held_with h place e).contents ≡ true
  unfolding held_with
  with-padded = padded-with h.lengths h.contents place e.content fits.short good.padded good.range.lengths (good.free place inside free).1

  pub with-good : HeldGood members (held_with h place e)
  with-good = record { range = with-range; known = with-known; free = with-free; padded = with-padded }

-- ---- a place is cleared

module _ (members : List ℕ) (h : Held) (place : ℕ) (good : HeldGood members h) (inside : place < most_held) where
  cleared-range : HeldRange (cleared h place)
  unfolding cleared
  cleared-range =
      let r = good.range in
      let s = sizes-cleared h place (held-sizes h r) in
      record {
        arrays = s.arrays;
        senders = most-set most_id h.senders place 0 r.senders (omega arith);
        services = most-set most_service h.services place 0 r.services (omega arith);
        lengths = s.short;
      }

  cleared-known : (p : ℕ) → get_or (cleared h place).senders p 0 ≢ 0 → is_member members (get_or (cleared h place).senders p 0) ≡ true
  unfolding cleared
  cleared-known p some =
      elim (ℕ_discrete p place) [
        | yes q ↦ absurd (some (rw q (get_or-set_same h.senders place 0 0 (omega (arith, good.range.arrays.senders)))))
        | no q ↦ rw (get_or-set_other h.senders place p 0 0 q) (good.known p (rw (get_or-set_other h.senders place p 0 0 q) at some))
      ]

  cleared-free : (p : ℕ) → p < most_held → get_or (cleared h place).senders p 0 ≡ 0 → (get_or (cleared h place).services p 0 ≡ 0) × (get_or (cleared h place).lengths p 0 ≡ 0)
  unfolding cleared
  cleared-free p p< none =
      elim (ℕ_discrete p place) [
        | yes q ↦
            rw q
            (get_or-set_same h.services place 0 0 (omega (arith, good.range.arrays.services)), get_or-set_same h.lengths place 0 0 (omega (arith, good.range.arrays.lengths)))
        | no q ↦
            rw (get_or-set_other h.services place p 0 0 q, get_or-set_other h.lengths place p 0 0 q)
            (good.free p p< (rw (get_or-set_other h.senders place p 0 0 q) at none))
      ]

  abbrev zeros : List ℕ
  zeros = replicate most_content 0

  -- of the place itself: all its bytes are zero
  own-padding : Most 0 (padding (set h.lengths place 0) (sets h.contents (most_content * place) zeros) place)
  own-padding =
      let written : take most_content (drop (most_content * place) (sets h.contents (most_content * place) zeros)) ≡ zeros = part-written (most_content * place) zeros h.contents (omega (arith, length-replicate {A = ℕ} most_content 0, good.range.arrays.contents)) in
      rw (get_or-set_same h.lengths place 0 0 (omega (arith, good.range.arrays.lengths)), add-zero, written) (most-zeros 0 most_content)

  other-padding : (p : ℕ) → p < length h.lengths → p ≢ place → Most 0 (padding (set h.lengths place 0) (sets h.contents (most_content * place) zeros) p)
  other-padding p p< q =
      let n = get_or h.lengths p 0 in
      rw (get_or-set_other h.lengths place p 0 0 q, place-apart p place n (most_content - n) zeros h.contents q (omega (arith, good.range.lengths p)) (omega (arith, length-replicate {A = ℕ} most_content 0)))
      (padded-at h.lengths h.contents good.padded p p<)

  each-padding : (p : ℕ) → p < length (set h.lengths place 0) → Most 0 (padding (set h.lengths place 0) (sets h.contents (most_content * place) zeros) p)
  each-padding p p< =
      let p<l : p < length h.lengths = rw (length-set h.lengths place 0) at p< in
      elim (ℕ_discrete p place) [
        | yes q ↦ rw q own-padding
        | no q ↦ other-padding p p<l q
      ]

  cleared-padded : contents_padded (cleared h place).lengths (cleared h place).contents ≡ true
  unfolding cleared
  cleared-padded = padded-from (set h.lengths place 0) (sets h.contents (most_content * place) zeros) each-padding

  pub cleared-good : HeldGood members (cleared h place)
  cleared-good = record { range = cleared-range; known = cleared-known; free = cleared-free; padded = cleared-padded }

pub cleared-from-good : (members : List ℕ) (h : Held) (first n : ℕ) → HeldGood members h → HeldGood members (cleared_from h first n)
unfolding cleared_from
cleared-from-good members h first zero good = good
cleared-from-good members h first (suc n) good = cleared-from-good members (cleared h (place_of first)) (suc first) n (cleared-good members h (place_of first) good (omega arith))
