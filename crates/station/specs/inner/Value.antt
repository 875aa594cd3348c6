-- A record in lent bytes and its head; a call by value, which goes over bytes; how many ids of a list of members are read.
use Rattle.std.specs.Prelude.{ℕ, ◌/◌, ◌%◌, ◌≡◌, true, ◌&&◌, cond, List, ◌++◌, length, drop, leb, eqb, Result, replicate}
use Rattle.std.specs.Fn.{Once}
use denote.Ref.{MutBor}
use Rattle.record.specs.Size.{most_members}
use Rattle.record.specs.Layout.{record_size}
use Rattle.record.specs.Bytes.{record_bytes, record_of}
use Rattle.record.specs.inner.Head.{record_in}
use Rattle.record.specs.Whole.{whole}
use Rattle.record.specs.declared.head.Head.{Head}
use Rattle.record.specs.declared.Record.{Record}
use Rattle.station.specs.Answer.{is_taken}
use Rattle.station.specs.declared.refusal.Refusal.{Refusal}
use Rattle.station.specs.declared.answer.Answer.{Answer}
use Rattle.station.specs.declared.done.Done.{Done}

-- a whole record where it is lent, and its head
pub record HeadIn (h : Head) (s : List ℕ) : Type 0 where
  pub whole_record : whole (record_in h s) ≡ true
  pub size : length s ≡ record_size

-- the bytes that a call by value lends: at first all are zero
abbrev pub zeros : List ℕ
zeros = replicate record_size 0

-- the bytes of a whole record; else the bytes stay
abbrev pub lent_by : Record → List ℕ → List ℕ
lent_by r s = cond (whole r) (record_bytes r ++ drop record_size s) s

-- `call` at references to the bytes s, f and d may give `a` and leave s', f' and d' there
pub record Leaves {F A : Type 0}
    (g : Once F (MutBor (List ℕ) × (MutBor (List ℕ) × (MutBor (List ℕ) × Unit {0}))) (A × (MutBor (List ℕ) × (MutBor (List ℕ) × (MutBor (List ℕ) × Unit {0})))))
    (call : F) (s f d : List ℕ) (a : A) (s' f' d' : List ℕ) : Type 0 where
  pub station : MutBor (List ℕ)
  pub frames : MutBor (List ℕ)
  pub deliveries : MutBor (List ℕ)
  pub shows : (station.now ≡ s) × (frames.now ≡ f) × (deliveries.now ≡ d)
  pub station' : MutBor (List ℕ)
  pub frames' : MutBor (List ℕ)
  pub deliveries' : MutBor (List ℕ)
  pub met : g.post call (station, (frames, (deliveries, tt))) (a, (station', (frames', (deliveries', tt))))
  pub leaves : (station'.now ≡ s') × (frames'.now ≡ f') × (deliveries'.now ≡ d')

-- the record as it was where the call was refused, else the one in the bytes
abbrev pub settled : Record → Result Answer Refusal → List ℕ → Done
settled r a s = record { answer = a; rec = cond (is_taken a) (record_of s) r }

-- how many ids are read; a list that has too many of them is refused whatever they are
abbrev pub listed_count : List ℕ → ℕ
listed_count s = cond (eqb (length s % 2) 0 && leb (length s / 2) most_members) (length s / 2) 0
