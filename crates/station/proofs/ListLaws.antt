-- A list of members in bytes: its ids, and how many the code reads.
use Prim.Native.Nat.{ℕ, ◌/◌, ◌%◌}
use mathlib.Core.Path.{◌≡◌, refl, sym, ap, ◌∙◌}
use mathlib.Core.Bool.{Bool, true, false, ◌&&◌, and-false}
use mathlib.Core.List.{List, [], ◌++◌}
use lib.ListN.{length, take}
use lib.Dec.{leb, eqb}
use lib.Seq.{take_at}
use Rattle.words.specs.Run.{words, words_as}
use Rattle.words.proofs.RunLaws.{length-words}
use Rattle.frames.specs.Layout.{shortest_token}
use Rattle.record.specs.Size.{most_members}
use Rattle.record.specs.Layout.{record_size}
use Rattle.record.specs.Lent.{no_record}
use Rattle.record.specs.Members.{members_counted}
use Rattle.record.specs.declared.Record.{Record}
use Rattle.station.specs.Found.{founded}
use Rattle.station.specs.Over.{ids_in, found_in, found_over}
use Rattle.station.specs.inner.Value.{listed_count}

-- ---- the list of members

ids-even : (s : List ℕ) → eqb (length s % 2) 0 ≡ true → ids_in s ≡ words 2 (length s / 2) s
unfolding ids_in
ids-even s even = rw even

ids-odd : (s : List ℕ) → eqb (length s % 2) 0 ≡ false → ids_in s ≡ []
unfolding ids_in
ids-odd s odd = rw odd

-- the ids that are read, and those that the bytes list: the same, or refused alike
pub data Listed (s : List ℕ) : Type 0 where
  same : ids_in s ≡ words 2 (listed_count s) s → Listed s
  refused-alike : members_counted (ids_in s) ≡ false → members_counted (words 2 (listed_count s) s) ≡ false → Listed s

listed : (s : List ℕ) → Listed s
unfolding words_as
listed s = go (eqb (length s % 2) 0) (leb (length s / 2) most_members) refl refl
  where
    go : (even few : Bool) → eqb (length s % 2) 0 ≡ even → leb (length s / 2) most_members ≡ few → Listed s
    go true true e f = same (ids-even s e ∙ rw (e, f))
    go true false e f =
        let long : length (words 2 (length s / 2) s) ≡ length s / 2 = length-words 2 (length s / 2) s in
        refused-alike (rw (ids-even s e, long, f, and-false)) (rw (e, f))
    go false few e f = same (ids-odd s e ∙ rw e)

-- so founding by either is the same
pub same-founding : (r : Record) (room : Bool) (s : List ℕ) (own ring : ℕ) → founded r room (ids_in s) own ring ≡ founded r room (words 2 (listed_count s) s) own ring
unfolding founded
same-founding r room s own ring =
    elim (listed s) [
      | same e ↦ ap (λ (ids : List ℕ). founded r room ids own ring) e
      | refused-alike e f ↦ rw (e, f)
    ]

pub over_listed : (s members ids : List ℕ) (n own ring room : ℕ) → n ≡ listed_count members → ids ≡ words 2 n members → found_over s members own ring room ≡ found_in s ids own ring room
unfolding found_in
over_listed s members ids n own ring room counts are = same-founding no_record _ members own ring ∙ ap (λ (xs : List ℕ). founded no_record (leb record_size (length s) && leb shortest_token room) xs own ring) (sym (are ∙ ap (λ k. words 2 k members) counts))

-- the part of the array that was read
pub ids_read : (s ids rest : List ℕ) (n : ℕ) → ids ≡ words 2 n s ++ rest → take n ids ≡ words 2 n s
ids_read s ids rest n e = rw e (take_at (words 2 n s) rest n (length-words 2 n s))
