-- A fresh record: members placed one by one, and that it is whole.
use Prim.Native.Nat.{ℕ, ◌-◌, ◌≤◌}
use mathlib.Core.Path.{◌≡◌, refl, sym, ◌∙◌}
use mathlib.Core.Bool.{true, false, and-false}
use mathlib.Core.List.{List, ◌++◌}
use Rattle.std.proofs.lemmas.List.{drop-replicate}
use borrow.Author.Tests.{le-leb, eq-eqb}
use native.Mathlib.Omega.{arith}
use lib.ListN.{length, take, drop, replicate, length-append, length-replicate, get_or-replicate}
use lib.Seq.{take-append_seam, drop-append_seam}
use Rattle.words.specs.Scan.{every, all_zero}
use Rattle.record.specs.Size.{most_members, most_held}
use Rattle.record.specs.Count.{every_from}
use Rattle.record.specs.Held.{place_of, in_window, holds}
use Rattle.record.specs.Panel.{undelivered}
use Rattle.record.specs.Members.{foundable}
use Rattle.record.specs.Fresh.{fresh_held, members_placed, fresh_log, fresh_turn, fresh_posts, fresh}
use Rattle.record.specs.Ring.{ids as ids_of}
use Rattle.record.specs.declared.log.Log.{Log}
use Rattle.record.specs.Whole.{held_in_range, numbers_in_range, log_in_range, turn_in_range, posts_in_range, senders_are_members, resend_passes, marks_in_order, arus_reached, held_to_level, next_not_held, contents_padded, free_places_zero, log_unused_zero, posts_unused_zero, turn_unused_zero, log_whole, turn_whole, posts_whole, panel_right, parts_whole, whole}
use Rattle.record.proofs.MemberLaws.{foundable-facts, own-most}
use Rattle.record.proofs.ListLaws.{most-zeros, all-within}
use Rattle.record.proofs.RangeLaws.{numbers-below}
use Rattle.record.proofs.TallyLaws.{undelivered-none}

-- ---- the members over zeros

pub placed-over : (ids placed : List ℕ) → placed ≡ ids → placed ++ drop (length ids) (replicate most_members 0) ≡ members_placed ids
unfolding members_placed
placed-over ids placed e = rw (e, drop-replicate {X = ℕ} (length ids) most_members 0)

-- ---- a fresh record is whole

posts-whole : posts_whole fresh_posts ≡ true
unfolding posts_whole posts_in_range posts_unused_zero contents_padded fresh_posts every every_from
posts-whole = refl

placed-length : (ids : List ℕ) → length ids ≤ most_members → length (members_placed ids) ≡ most_members
unfolding members_placed
placed-length ids few = length-append ids (replicate (most_members - length ids) 0) ∙ rw length-replicate (omega arith)

pub placed-front : (ids : List ℕ) → take (length ids) (members_placed ids) ≡ ids
unfolding members_placed
placed-front ids = take-append_seam ids (replicate (most_members - length ids) 0)

placed-rest : (ids : List ℕ) → all_zero (drop (length ids) (members_placed ids)) ≡ true
unfolding members_placed
placed-rest ids = rw (drop-append_seam ids (replicate (most_members - length ids) 0)) (all-within 0 (replicate (most_members - length ids) 0) (most-zeros 0 (most_members - length ids)))

module _ (ids : List ℕ) (own ring : ℕ) where
  abbrev log : Log
  log = fresh_log ids ring

  numbers-in-range : numbers_in_range log ≡ true
  unfolding fresh_log
  numbers-in-range = sym (numbers-below log (omega arith))

  log-in-range : length ids ≤ most_members → log_in_range log ≡ true
  unfolding log_in_range held_in_range fresh_log fresh_held every
  log-in-range few = rw (eq-eqb _ _ (placed-length ids few), le-leb _ _ few, numbers-in-range)

  senders-members : senders_are_members (ids_of log) log.held.senders ≡ true
  unfolding senders_are_members fresh_log fresh_held every
  senders-members = refl

  log-founded : foundable ids own ring ≡ true → foundable (ids_of log) own log.ring.0 ≡ true
  unfolding fresh_log
  log-founded e = rw (placed-front ids, e)

  log-marks : (marks_in_order log ≡ true) × (held_to_level log ≡ true) × (next_not_held log ≡ true)
  unfolding marks_in_order held_to_level next_not_held holds fresh_log fresh_held every_from
  log-marks = (refl, refl, refl)

  log-unused : log_unused_zero log ≡ true
  unfolding log_unused_zero free_places_zero contents_padded fresh_log fresh_held every every_from
  log-unused = rw (placed-rest ids)

  log-whole : foundable ids own ring ≡ true → log_whole own log ≡ true
  unfolding log_whole
  log-whole e = rw (log-in-range (foundable-facts ids own ring e).few, senders-members, log-founded e, log-marks.0, log-marks.1, log-marks.2, log-unused)

  turn-whole : turn_whole log fresh_turn ≡ true
  unfolding turn_whole turn_in_range resend_passes arus_reached turn_unused_zero fresh_log fresh_turn every
  turn-whole = refl

  -- nothing is held
  none-held : (n : ℕ) → holds log n ≡ false
  unfolding holds fresh_log fresh_held
  none-held n = rw (get_or-replicate {A = ℕ} most_held (place_of n) 0 0 (omega arith)) (and-false (in_window log n))

  pub fresh-shows : undelivered log ≡ 0
  fresh-shows = undelivered-none log none-held

  pub fresh-whole : foundable ids own ring ≡ true → whole (fresh ids own ring) ≡ true
  unfolding whole panel_right parts_whole fresh
  fresh-whole e = rw (fresh-shows, le-leb _ _ (own-most ids own (foundable-facts ids own ring e)), log-whole e, turn-whole, posts-whole)
