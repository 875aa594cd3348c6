-- Founding a ring, place by place.
use Rattle.std.specs.Prelude.{Err}
use Prim.Native.Nat.{ℕ, zero, suc, ◌+◌, ◌*◌, ◌/◌, ◌<◌, ◌≤◌}
use mathlib.Core.Path.{◌≡◌, refl, sym, ap, ◌∙◌}
use mathlib.Core.Bool.{Bool, true, false, cond, and-false, false≢true}
use mathlib.Core.List.{List, ◌++◌, append_assoc}
use native.Mathlib.Decide.{dec_lt}
use native.Mathlib.Numerals.{add-one}
use native.Mathlib.Omega.{arith}
use borrow.Author.Tests.{eq-eqb, ne_eqb, le-leb, lt-leb, leb-true}
use lib.Dec.{leb}
use lib.ListN.{length, get_or, take, drop, length-append, length-take, length-drop, drop_of_length-le}
use lib.Seq.{take_all, take_at, drop_at, drop-drop}
use Rattle.frames.specs.Layout.{shortest_token}
use Rattle.record.specs.Layout.{record_size}
use Rattle.station.specs.Answer.{outcome_of, is_taken}
use Rattle.station.specs.Reply.{Reply, refused}
use Rattle.visit.specs.Output.{followed_by}
use Rattle.record.specs.Lent.{no_record}
use Rattle.record.specs.Fresh.{fresh}
use Rattle.frames.proofs.Facts.{part}
use Rattle.record.specs.Members.{members_counted, ids_follow, ring_in_range, foundable}
use Rattle.record.proofs.MemberLaws.{foundable-facts}
use Rattle.record.proofs.FreshLaws.{fresh-whole}
use Rattle.record.proofs.RoundTrip.{record-restored}
use Rattle.station.specs.Found.{founded}
use Rattle.station.specs.declared.answer.Outcome.{Outcome}
use Rattle.station.specs.declared.refusal.Refusal.TheVariants.{NoRoom}
use Rattle.station.proofs.OutcomeLaws.{taken-by-number}
use Rattle.station.proofs.ReplyGood.{founded-either}
use Rattle.station.specs.Over.{ids_in, found_over, found_in}
use Rattle.station.specs.Reply.{station_after}
use Rattle.ring.specs.Run.{ring_foundable}
use Rattle.ring.specs.OverBytes.{founded_over, bytes_founded, ExactBuffer, Founding}
use Rattle.ring.specs.Stations.{record_at, with_record, records_after, ring_founded, records_founded, founded_up_to, ring_after, FoundedForDemand}
use Rattle.ring.proofs.places.PlaceLaws.{with-same}

-- the own id is that of the place
pub own_at : (p : ℕ) (records list : List ℕ) (ring : ℕ) (token : List ℕ) (own : ℕ)
    → own ≡ get_or (ids_in list) p 0
    → (o : Outcome) (records' token' : List ℕ)
    → (o ≡ outcome_of (found_over (record_at p records) list own ring (length token)).answer)
    × (records' ≡ records_after p (found_over (record_at p records) list own ring (length token)) records)
    × (token' ≡ followed_by (found_over (record_at p records) list own ring (length token)).frames token)
    → (o ≡ outcome_of (found_over (record_at p records) list (get_or (ids_in list) p 0) ring (length token)).answer)
    × (records' ≡ records_after p (found_over (record_at p records) list (get_or (ids_in list) p 0) ring (length token)) records)
    × (token' ≡ followed_by (found_over (record_at p records) list (get_or (ids_in list) p 0) ring (length token)).frames token)
own_at p records list ring token own e o records' token' h = rw e at h

-- ---- the bytes that a founding leaves are as many as there were

module _ (list : List ℕ) (ring : ℕ) (buffers : ℕ → List ℕ) (rooms : ℕ → ℕ) (p : ℕ) (long : length (buffers p) ≡ record_size) where
  left-size : length (station_after (founded_over list ring buffers rooms p) (buffers p)) ≡ record_size
  unfolding found_in
  left-size =
      founded-either (λ reply. length (station_after reply (buffers p)) ≡ record_size) no_record
      (λ why. long) _ (ids_in list) (get_or (ids_in list) p 0) ring
      (λ f.
      let size = (record-restored (fresh (ids_in list) (get_or (ids_in list) p 0) ring) (fresh-whole (ids_in list) (get_or (ids_in list) p 0) ring f)).1 in
      rw (length-append, size, drop_of_length-le (buffers p) {i = record_size} (omega (arith, long))))

  -- so they are all the record's
  exact : bytes_founded list ring buffers rooms p ≡ station_after (founded_over list ring buffers rooms p) (buffers p)
  exact = take_all record_size (station_after (founded_over list ring buffers rooms p) (buffers p)) (omega (arith, left-size))

pub exact-buffer : ExactBuffer
exact-buffer = exact

founded-size : (list : List ℕ) (ring : ℕ) (buffers : ℕ → List ℕ) (rooms : ℕ → ℕ) (p : ℕ) → length (buffers p) ≡ record_size → length (bytes_founded list ring buffers rooms p) ≡ record_size
founded-size list ring buffers rooms p long = ap length (exact list ring buffers rooms p long) ∙ left-size list ring buffers rooms p long

records-size : (list : List ℕ) (ring : ℕ) (records : List ℕ) (n : ℕ) → record_size * n ≤ length records → length (records_founded list ring records n) ≡ record_size * n
unfolding records_founded
records-size list ring records zero h = refl
records-size list ring records (suc n) h =
    let here : length (record_at n records) ≡ record_size = simp (length-take, length-drop) (omega arith) in
    rw (length-append, records-size list ring records n (omega arith), founded-size list ring (λ p. record_at p records) (λ p. shortest_token) n here) (omega arith)

-- ---- one member more

pub founding-goes : (list : List ℕ) (ring : ℕ) (before : List ℕ) (i : ℕ) (records records' : List ℕ)
    → record_size * (i + 1) ≤ length before
    → records ≡ founded_up_to list ring before i
    → records' ≡ records_after i (found_over (record_at i records) list (get_or (ids_in list) i 0) ring shortest_token) records
    → records' ≡ founded_up_to list ring before (i + 1)
unfolding records_founded
founding-goes list ring before i records records' room e e' =
    let size : length (records_founded list ring before i) ≡ record_size * i = records-size list ring before i (omega arith) in
    let next : record_size * i + record_size ≡ record_size * suc i = omega arith in
    let there : drop (record_size * i) records ≡ drop (record_size * i) before = rw e (drop_at (records_founded list ring before i) _ (record_size * i) size) in
    let behind : drop (record_size * i + record_size) records ≡ drop (record_size * suc i) before = rw (← drop-drop record_size (record_size * i) records, there, drop-drop, next) in
    let front : take (record_size * i) records ≡ records_founded list ring before i = rw e (take_at (records_founded list ring before i) _ (record_size * i) size) in
    let here : length (record_at i before) ≡ record_size = simp (length-take, length-drop) (omega arith) in
    e' ∙ rw (add-one i, exact list ring (λ p. record_at p before) (λ p. shortest_token) i here, there, behind, front, append_assoc)

-- ---- a founding that is taken

token-room : (s list : List ℕ) (own ring room : ℕ) → is_taken (found_over s list own ring room).answer ≡ true → found_over s list own ring room ≡ found_over s list own ring shortest_token
unfolding found_in founded
token-room s list own ring room t = go (leb shortest_token room) refl
  where
    go : (b : Bool) → leb shortest_token room ≡ b → found_over s list own ring room ≡ found_over s list own ring shortest_token
    go true e = rw e
    go false e = absurd (false≢true (rw (e, and-false) at t))

members-some : (s list : List ℕ) (own ring room : ℕ) → is_taken (found_over s list own ring room).answer ≡ true → 1 ≤ length (ids_in list)
unfolding found_in
members-some s list own ring room =
    founded-either (λ reply. is_taken reply.answer ≡ true → 1 ≤ length (ids_in list)) no_record
    (λ why t. absurd (false≢true t)) _ (ids_in list) own ring
    (λ f t. omega (arith, foundable-facts (ids_in list) own ring f))

-- ---- founding the ring: no room, a refusal, all founded

module _ (records list : List ℕ) (ring : ℕ) (token : List ℕ) where
  pub ring-roomless : (n : ℕ) (o : Outcome)
      → n ≡ length (ids_in list)
      → length records / record_size < n
      → o ≡ outcome_of (Err NoRoom)
      → (o ≡ outcome_of (ring_founded records list ring (length token)).answer)
      × (records ≡ ring_after records list ring (length token))
      × (token ≡ followed_by (ring_founded records list ring (length token)).frames token)
  unfolding ring_founded ring_after
  ring-roomless n o e h f =
      let short : length records < record_size * length (ids_in list) = omega arith in
      rw (lt-leb (record_size * length (ids_in list)) (length records) short) (f, refl, refl)

  abbrev first : Reply
  first = found_over (record_at 0 records) list (get_or (ids_in list) 0 0) ring (length token)

  module _ (n : ℕ) (o : Outcome) (records₁ token₁ : List ℕ)
      (e : n ≡ length (ids_in list))
      (room : length records / record_size < n → ⊥)
      (said : o ≡ outcome_of first.answer)
      (left : records₁ ≡ records_after 0 first records)
      (wrote : token₁ ≡ followed_by first.frames token) where
    none : records ≡ founded_up_to list ring records 0
    unfolding records_founded
    none = refl

    enough : record_size * length (ids_in list) ≤ length records
    enough = omega arith

    one : ring_founded records list ring (length token) ≡ first
    unfolding ring_founded
    one = rw (le-leb (record_size * length (ids_in list)) (length records) enough)

    pub ring-refused : (o.refusal ≡ 0 → ⊥)
        → (o ≡ outcome_of (ring_founded records list ring (length token)).answer)
        × (records₁ ≡ ring_after records list ring (length token))
        × (token₁ ≡ followed_by (ring_founded records list ring (length token)).frames token)
    unfolding ring_after
    ring-refused why =
        let known : is_taken first.answer ≡ false = taken-by-number first.answer ∙ ne_eqb (outcome_of first.answer).refusal 0 (λ z. why (ap (λ (x : Outcome). x.refusal) said ∙ z)) in
        let same : records₁ ≡ with_record 0 (record_at 0 records) records = rw known at left in
        rw (one, known) (said, same ∙ sym (with-same 0 records), wrote)

    pub ring-founded : (records₂ : List ℕ)
        → o.refusal ≡ 0
        → ((before : List ℕ) → 1 ≤ n → record_size * n ≤ length before → records₁ ≡ founded_up_to list ring before 1 → records₂ ≡ founded_up_to list ring before n)
        → (o ≡ outcome_of (ring_founded records list ring (length token)).answer)
        × (records₂ ≡ ring_after records list ring (length token))
        × (token₁ ≡ followed_by (ring_founded records list ring (length token)).frames token)
    unfolding ring_after
    ring-founded records₂ taken others =
        let known : is_taken first.answer ≡ true = taken-by-number first.answer ∙ eq-eqb (outcome_of first.answer).refusal 0 (sym (ap (λ (x : Outcome). x.refusal) said) ∙ taken) in
        let some : 1 ≤ length (ids_in list) = members-some (record_at 0 records) list (get_or (ids_in list) 0 0) ring (length token) known in
        let full : record_size * n ≤ length records = omega (arith, enough) in
        let left' : records₁ ≡ records_after 0 (found_over (record_at 0 records) list (get_or (ids_in list) 0 0) ring shortest_token) records = rw (token-room (record_at 0 records) list (get_or (ids_in list) 0 0) ring (length token) known) at left in
        let start : records₁ ≡ founded_up_to list ring records 1 = founding-goes list ring records 0 records records₁ (omega arith) none left' in
        rw (one, known) (said, rw e at (others records (omega arith) full start), wrote)

-- ---- and demand 3 speaks of it

foundable-ring : (ids : List ℕ) (own ring : ℕ) → foundable ids own ring ≡ true → ring_foundable ids ring ≡ true
unfolding foundable ring_foundable
foundable-ring ids own ring e =
    let counted : members_counted ids ≡ true = part e (λ (f : members_counted ids ≡ false). rw f) in
    let follow : ids_follow ids ≡ true = part e (λ (f : ids_follow ids ≡ false). rw (f, and-false)) in
    let ranged : ring_in_range ring ≡ true = part e (λ (f : ring_in_range ring ≡ false). rw (f, and-false)) in
    rw (counted, follow, ranged)

taken-ring : (s list : List ℕ) (own ring room : ℕ) → is_taken (found_over s list own ring room).answer ≡ true → ring_foundable (ids_in list) ring ≡ true
unfolding found_in
taken-ring s list own ring room =
    founded-either (λ reply. is_taken reply.answer ≡ true → ring_foundable (ids_in list) ring ≡ true) no_record
    (λ why t. absurd (false≢true t)) _ (ids_in list) own ring
    (λ f t. foundable-ring (ids_in list) own ring f)

-- the records stand at their places
record-there : (list : List ℕ) (ring : ℕ) (records : List ℕ) (n : ℕ) → record_size * n ≤ length records → (rest : List ℕ) (p : ℕ) → p < n
    → record_at p (records_founded list ring records n ++ rest) ≡ bytes_founded list ring (λ q. record_at q records) (λ q. shortest_token) p
unfolding records_founded
record-there list ring records zero h rest p below = absurd (omega arith)
record-there list ring records (suc n) h rest p below =
    let front = records_founded list ring records n in
    let last = bytes_founded list ring (λ q. record_at q records) (λ q. shortest_token) n in
    let here : length (record_at n records) ≡ record_size = simp (length-take, length-drop) (omega arith) in
    let size : length last ≡ record_size = founded-size list ring (λ q. record_at q records) (λ q. shortest_token) n here in
    ap (record_at p) (append_assoc front last rest)
    ∙ elim (dec_lt p n) [
      | yes lower ↦ record-there list ring records n (omega arith) (last ++ rest) p lower
      | no h' ↦
          let e : p ≡ n = omega arith in
          rw (e, drop_at front (last ++ rest) (record_size * n) (records-size list ring records n (omega arith))) (take_at last rest record_size size)
    ]

module _ (records list : List ℕ) (ring room : ℕ) where
  -- with room for every record, or not
  abbrev reply : Bool → Reply
  reply b = cond b (found_over (record_at 0 records) list (get_or (ids_in list) 0 0) ring room) (refused no_record NoRoom)

  by-room : (b : Bool) → leb (record_size * length (ids_in list)) (length records) ≡ b
      → is_taken (reply b).answer ≡ true
      → Founding list ring (λ p. record_at p records) (λ p. shortest_token)
      × ((p : ℕ) → p < length (ids_in list)
      → record_at p (cond (is_taken (reply b).answer) (founded_up_to list ring records (length (ids_in list))) records) ≡ bytes_founded list ring (λ q. record_at q records) (λ q. shortest_token) p)
  by-room true e t =
      let enough = leb-true (record_size * length (ids_in list)) (length records) e in (
        record {
          foundable = taken-ring (record_at 0 records) list (get_or (ids_in list) 0 0) ring room t;
          large = record { long = λ p h. simp (length-take, length-drop) (omega arith); room = λ p h. omega arith };
        },
        λ p h. rw t (record-there list ring records (length (ids_in list)) enough (drop (record_size * length (ids_in list)) records) p h),
      )
  by-room false e t = absurd (false≢true t)

pub founded-for-demand : FoundedForDemand
unfolding ring_founded ring_after
founded-for-demand records list ring room = by-room records list ring room (leb (record_size * length (ids_in list)) (length records)) refl
