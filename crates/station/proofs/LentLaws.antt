-- Bytes that are whole.
use Prim.Native.Nat.{ℕ, ◌≤◌}
use mathlib.Core.Path.{◌≡◌}
use mathlib.Core.Bool.{true, false}
use mathlib.Core.List.{List, ◌++◌, append-nil}
use borrow.Author.Tests.{eqb-true, eqb-false}
use native.Mathlib.Omega.{arith}
use lib.ListN.{length, drop, drop_of_length-le}
use lib.Dec.{eqb}
use Rattle.frames.proofs.Facts.{part}
use Rattle.record.specs.Layout.{record_size}
use Rattle.record.specs.Bytes.{record_of}
use Rattle.record.specs.Lent.{lent}
use Rattle.record.specs.Whole.{whole}
use Rattle.record.specs.inner.Head.{record_in, record_head}
use Rattle.record.specs.declared.head.Head.{Head}
use Rattle.record.proofs.LentLaws.{lent_of, other_length, own-head}
use Rattle.record.proofs.WholeFacts.{whole-good}
use Rattle.station.specs.inner.Value.{HeadIn}

pub whole_long : (s : List ℕ) → whole (lent s) ≡ true → length s ≡ record_size
whole_long s w = eqb-true (length s) record_size (part w (λ (f : eqb (length s) record_size ≡ false). other_length s (eqb-false (length s) record_size f)))

-- the record in them
pub whole_lent : (s : List ℕ) → whole (lent s) ≡ true → lent s ≡ record_of s
whole_lent s w = lent_of s (whole_long s w)

-- what stands in place of a record has nothing after it
pub alone : (bytes s : List ℕ) → length s ≡ record_size → bytes ++ drop record_size s ≡ bytes
alone bytes s long = rw (drop_of_length-le s {i = record_size} (omega (arith, long)), append-nil)

-- the head that was looked at is that of the record in them
pub head_lent : (s : List ℕ) (h : Head) → whole (lent s) ≡ true → h ≡ record_head (lent s) → record_in h s ≡ lent s
head_lent s h w e = own-head s h w (whole_long s w) e

pub head_there : (s : List ℕ) (h : Head) → whole (lent s) ≡ true → h ≡ record_head (lent s) → HeadIn h s
head_there s h w e = record { whole_record = rw (head_lent s h w e) w; size = whole_long s w }

-- the members are within their places
pub ids_fit : (h : Head) (s : List ℕ) → HeadIn h s → h.log.count ≤ length h.log.members
ids_fit h s there = let m = (whole-good (record_in h s) there.whole_record).log.ready.members in omega (arith, m.long, m.few)

-- what posting and resending use of them
pub ruleset lent_rules = (whole_long, whole_lent, alone)
