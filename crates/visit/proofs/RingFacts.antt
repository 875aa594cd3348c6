-- A ring: its members' ids, one's own among them, and the header of its frames.
use Prim.Native.Nat.{ℕ, ◌≤◌}
use mathlib.Core.Path.{◌≡◌, sym}
use mathlib.Core.List.{List, [], ◌∷◌}
use mathlib.Core.Logic.{◌≢◌}
use mathlib.Core.Bool.{true, false, and-false}
use borrow.Author.Tests.{leb-true, eqb-true}
use native.Mathlib.Omega.{arith}
use lib.Dec.{leb, eqb}
use lib.ListN.{length}
use Rattle.words.specs.Scan.{every, all_within}
use Rattle.frames.specs.Number.{most_id, is_id}
use Rattle.frames.specs.Header.{header_follows}
use Rattle.frames.specs.declared.header.Header.{Header}
use Rattle.frames.proofs.Facts.{part}
use Rattle.record.specs.Size.{least_members}
use Rattle.record.specs.Members.{is_member, representative, ring_in_range, foundable}
use Rattle.record.specs.Ring.{current, ids, this_ring}
use Rattle.record.specs.declared.log.Log.{Log}
use Rattle.record.specs.declared.Record.{Record}
use Rattle.record.proofs.MemberLaws.{member-passes, FoundableFacts, foundable-facts}
use Rattle.record.proofs.WholeFacts.{RecordGood}
use Rattle.visit.specs.Deliver.{ring_header}

representative-in : (ids : List ℕ) → least_members ≤ length ids → all_within 1 most_id ids ≡ true → is_id (representative ids) ≡ true
unfolding every
representative-in [] some e = absurd (omega arith)
representative-in (x ∷ ids) some e = part e (λ (f : is_id x ≡ false). rw f)

module _ (ids : List ℕ) (own ring : ℕ) (e : foundable ids own ring ≡ true) where
  pub representative-id : is_id (representative ids) ≡ true
  representative-id = let f = foundable-facts ids own ring e in representative-in ids f.some f.known

  pub header-follows : header_follows (record { ring = record { 0 = ring }; representative = representative ids }) ≡ true
  unfolding foundable header_follows
  header-follows = rw (part e (λ (f : ring_in_range ring ≡ false). simp (f, and-false)), representative-id)

module _ (r : Record) (good : RecordGood r) where
  pub founded-facts : FoundableFacts (ids (current r)) r.own
  founded-facts = foundable-facts (ids (current r)) r.own (current r).ring.0 good.founded

  pub member-id : (x : ℕ) → is_member (ids (current r)) x ≡ true → is_id x ≡ true
  member-id x m = member-passes (λ y. is_id y) (ids (current r)) x m founded-facts.known

  pub own-id : is_id r.own ≡ true
  own-id = member-id r.own founded-facts.among

  pub own-some : r.own ≢ 0
  own-some q = let low = leb-true 1 r.own (part own-id (λ (f : leb 1 r.own ≡ false). rw f)) in omega arith

  pub ring-header : header_follows (ring_header (current r)) ≡ true
  ring-header = header-follows (ids (current r)) r.own (current r).ring.0 good.founded

-- ---- a header that passes 13 is that of this ring's frames

header-same : (h : Header) (ring first : ℕ) → ring ≡ h.ring.0 → first ≡ h.representative → record { ring = record { 0 = ring }; representative = first } ≡ h
header-same h ring first e f = rw (e, f)

pub header-here : (l : Log) (h : Header) → this_ring l.ring.0 (ids l) h ≡ true → ring_header l ≡ h
unfolding this_ring
header-here l h this =
    header-same h l.ring.0 (representative (ids l))
    (sym (eqb-true h.ring.0 l.ring.0 (part this (λ (f : eqb h.ring.0 l.ring.0 ≡ false). rw f))))
    (sym (eqb-true h.representative (representative (ids l)) (part this (λ (f : eqb h.representative (representative (ids l)) ≡ false). simp (f, and-false)))))
