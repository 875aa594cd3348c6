-- Demand 3 for records as bytes: the records in them do what structs do.
use Prim.Native.Nat.{ℕ, ◌<◌}
use mathlib.Core.Path.{◌≡◌, sym, ◌∙◌, ap, subst}
use mathlib.Core.Bool.{true}
use mathlib.Core.List.{List, [], ◌++◌}
use borrow.Author.Tests.{le-leb}
use lib.ListN.{length, get_or, take, drop}
use lib.Seq.{take_at}
use Rattle.frames.specs.Layout.{shortest_token}
use Rattle.record.specs.Layout.{record_size}
use Rattle.record.specs.Fresh.{fresh}
use Rattle.record.specs.Bytes.{record_bytes}
use Rattle.record.specs.Whole.{whole}
use Rattle.record.specs.Lent.{lent}
use Rattle.record.specs.declared.Record.{Record}
use Rattle.record.proofs.LentLaws.{lent_of}
use Rattle.record.proofs.RoundTrip.{record-restored}
use Rattle.station.specs.Reply.{Reply}
use Rattle.station.specs.Over.{ids_in, found_in}
use Rattle.station.specs.Reply.{station_after}
use Rattle.ring.specs.Calls.{Call}
use Rattle.ring.specs.Run.{founded_at, records, Account}
use Rattle.ring.specs.Demand.{CanAfter, WholeRun}
use Rattle.ring.specs.OverBytes.{founded_over, bytes_founded, Founding, over_bytes, CanOver, Demand₃OverBytes, ListedOverBytes, NeverRefusedOverBytes, AlwaysWholeOverBytes, FirstOverBytes}
use Rattle.ring.specs.Listed.{ListedInOrder}
use Rattle.ring.specs.AlwaysWhole.{RecordsWhole}
use Rattle.ring.specs.Newest.{NewestAccepted}
use Rattle.ring.proofs.runs.AlwaysWhole.{always-whole-from}
use Rattle.ring.proofs.runs.Newest.{never-refused-from}
use Rattle.ring.proofs.runs.Start.{RingFacts, ring-facts, one-first, founded-at}
use Rattle.ring.proofs.runs.Wholes.{founded-whole}
use Rattle.ring.proofs.runs.Demand.{FromFounded, demand₃-from}
use Rattle.ring.proofs.runs.Listed.{listed-from}
use Rattle.ring.proofs.runs.LentRun.{account-lent}

-- ---- founding leaves founding's records in the bytes

-- the bytes of a whole record are the first of those that a taken call leaves
front-lent : (r : Record) (rest : List ℕ) → whole r ≡ true → lent (take record_size (record_bytes r ++ rest)) ≡ r
front-lent r rest w =
    let restored = record-restored r w in
    rw (take_at (record_bytes r) rest record_size restored.1) (lent_of (record_bytes r) restored.1 ∙ restored.0)

module _ (list : List ℕ) (ring : ℕ) (buffers : ℕ → List ℕ) (rooms : ℕ → ℕ) (f : Founding list ring buffers rooms) where
  facts : RingFacts (ids_in list) ring
  facts = ring-facts (ids_in list) ring f.foundable

  -- founding over bytes is founding
  founded-same : (p : ℕ) → p < length (ids_in list) → founded_over list ring buffers rooms p ≡ founded_at (ids_in list) ring p
  unfolding found_in
  founded-same p h = rw (le-leb record_size (length (buffers p)) (f.large.long p h), le-leb shortest_token (rooms p) (f.large.room p h))

  founded-lent : (p : ℕ) → p < length (ids_in list) → lent (bytes_founded list ring buffers rooms p) ≡ records (ids_in list) ring p
  founded-lent p h =
      let is = founded-at (ids_in list) ring facts.counted facts.follow facts.ranged p h in
      ap (λ (r : Reply). lent (take record_size (station_after r (buffers p)))) (founded-same p h ∙ is)
      ∙ front-lent (fresh (ids_in list) (get_or (ids_in list) p 0) ring) (drop record_size (buffers p))
      (sym (ap (λ (r : Reply). whole r.rec) is) ∙ founded-whole (ids_in list) ring facts.counted facts.follow facts.ranged p h)
      ∙ ap (λ (r : Reply). r.rec) (sym is)

  -- what holds of every run of structs from founding's records holds over bytes
  over-bytes : (P : Account → List Call → Type 0)
      → FromFounded (ids_in list) ring P
      → (calls : List Call) → CanOver list ring buffers rooms calls → P (over_bytes list ring buffers rooms) calls
  over-bytes P from =
      subst (λ (a : Account). (calls : List Call) → CanAfter (ids_in list) ring a [] calls → P a calls)
      (sym (account-lent (bytes_founded list ring buffers rooms)))
      (from (λ p. lent (bytes_founded list ring buffers rooms p)) founded-lent)

pub demand₃-over-bytes : Demand₃OverBytes
demand₃-over-bytes list ring buffers rooms f =
    over-bytes list ring buffers rooms f (WholeRun (ids_in list) ring) (demand₃-from (ids_in list) ring (ring-facts (ids_in list) ring f.foundable))

pub listed-over-bytes : ListedOverBytes
listed-over-bytes list ring buffers rooms f =
    over-bytes list ring buffers rooms f (ListedInOrder (ids_in list) ring) (listed-from (ids_in list) ring (ring-facts (ids_in list) ring f.foundable))

pub never-refused-over-bytes : NeverRefusedOverBytes
never-refused-over-bytes list ring buffers rooms f =
    let facts = ring-facts (ids_in list) ring f.foundable in
    over-bytes list ring buffers rooms f (NewestAccepted (ids_in list) ring) (never-refused-from (ids_in list) ring facts.counted facts.follow facts.ranged)

pub always-whole-over-bytes : AlwaysWholeOverBytes
always-whole-over-bytes list ring buffers rooms f =
    over-bytes list ring buffers rooms f (RecordsWhole (ids_in list) ring) (always-whole-from (ids_in list) ring (ring-facts (ids_in list) ring f.foundable))

pub first-over-bytes : FirstOverBytes
first-over-bytes list ring buffers rooms f p h = ap (λ (r : Reply). r.frames) (founded-same list ring buffers rooms f p h) ∙ one-first (ids_in list) ring f.foundable p h
