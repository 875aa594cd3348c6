-- A record lent as bytes.
use Prim.Native.Nat.{ℕ}
use mathlib.Core.Path.{◌≡◌, refl, sym, ap, ◌∙◌}
use mathlib.Core.Bool.{Bool, true, false, and-false}
use mathlib.Core.List.{List}
use borrow.Author.Tests.{eq-eqb, ne_eqb}
use lib.ListN.{length}
use Rattle.words.specs.Word.{word_at}
use Rattle.words.specs.Scan.{every}
use Rattle.record.specs.Count.{numbers_after, those}
use Rattle.record.specs.Held.{holds, held_numbers}
use Rattle.record.specs.Members.{foundable}
use Rattle.record.specs.Layout.{record_size, panel_at, log_at}
use Rattle.record.specs.inner.Head.{log_on, record_in, record_head, contents_in}
use Rattle.record.specs.declared.head.Head.{Head}
use Rattle.record.specs.Fresh.{fresh_held, members_placed, fresh_log, fresh}
use Rattle.record.specs.Whole.{held_in_range, numbers_in_range, log_in_range, senders_are_members, log_whole, panel_right, parts_whole, whole}
use Rattle.record.specs.Bytes.{record_of}
use Rattle.record.specs.Lent.{no_record, lent, bytes_whole}
use Rattle.record.specs.Panel.{undelivered}
use Rattle.record.specs.RoundTrip.{OtherLength}
use Rattle.record.proofs.GetLaws.{contents-there, waiting-there}
use Rattle.record.proofs.WholeFacts.{whole-good}

pub lent_of : (s : List ℕ) → length s ≡ record_size → lent s ≡ record_of s
unfolding lent
lent_of s e = rw (eq-eqb (length s) record_size e)

pub lent_none : (s : List ℕ) → (length s ≡ record_size → ⊥) → lent s ≡ no_record
unfolding lent
lent_none s other = rw (ne_eqb (length s) record_size other)

pub own-head : (s : List ℕ) (h : Head) → whole (lent s) ≡ true → length s ≡ record_size → h ≡ record_head (lent s) → record_in h s ≡ lent s
own-head s h w long e =
    let shows : (record_of s).panel ≡ undelivered (record_of s).log = rw (lent_of s long) at (whole-good (lent s) w).panel in
    rw (e, lent_of s long, contents-there s, waiting-there s, ← shows)

-- the record in bytes of its length, looked at where it stands
module _ (s : List ℕ) (h : Head) (long : length s ≡ record_size) (e : h ≡ record_head (lent s)) (shown : ℕ) (reads : shown ≡ word_at 1 s panel_at) where
  log-there : log_on h.log (contents_in s log_at) ≡ (record_of s).log
  log-there = rw (e, lent_of s long, contents-there s)

  panel-there : shown ≡ (record_of s).panel
  unfolding record_of
  panel-there = reads

  pub shown-wrong : (count : ℕ) → ((contents : List ℕ) → count ≡ undelivered (log_on h.log contents)) → (shown ≡ count → ⊥) → false ≡ bytes_whole s
  unfolding whole panel_right
  shown-wrong count counts ne =
      let is : count ≡ undelivered (record_of s).log = counts (contents_in s log_at) ∙ ap undelivered log-there in
      let apart : (record_of s).panel ≡ undelivered (record_of s).log → ⊥ = λ q. ne (panel-there ∙ q ∙ sym is) in
      rw (lent_of s long, ne_eqb (record_of s).panel (undelivered (record_of s).log) apart)

  pub whole-there : (count : ℕ) (b : Bool)
      → ((contents : List ℕ) → count ≡ undelivered (log_on h.log contents))
      → shown ≡ count
      → b ≡ parts_whole (record_in h s)
      → b ≡ bytes_whole s
  unfolding whole panel_right parts_whole
  whole-there count b counts same f =
      let is : (record_of s).panel ≡ undelivered (record_of s).log = sym panel-there ∙ same ∙ counts (contents_in s log_at) ∙ ap undelivered log-there in
      rw (lent_of s long, eq-eqb (record_of s).panel (undelivered (record_of s).log) is) (rw (e, lent_of s long, contents-there s, waiting-there s) at f)

no-parts-whole : parts_whole no_record ≡ false
unfolding every numbers_after those holds held_numbers foundable fresh_held members_placed fresh_log fresh held_in_range numbers_in_range log_in_range senders_are_members log_whole parts_whole
no-parts-whole = refl

pub no-record-whole : whole no_record ≡ false
unfolding whole
no-record-whole = rw no-parts-whole (and-false (panel_right no_record))

pub other_length : OtherLength
other_length s other = rw (lent_none s other, no-record-whole)
