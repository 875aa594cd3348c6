-- What a call leaves: its answer, the record, the bytes for the cable and the bytes delivered. [document 01, Questions at the door]
use Rattle.std.specs.Prelude.{ℕ, ◌≡◌, Bool, cond, List, [], ◌++◌, drop, Result, Err}
use Rattle.record.specs.Layout.{record_size}
use Rattle.record.specs.Bytes.{record_bytes}
use Rattle.record.specs.declared.Record.{Record}
use Rattle.visit.specs.Output.{followed_by}
use Rattle.station.specs.Answer.{is_taken}
use Rattle.station.specs.declared.refusal.Refusal.{Refusal}
use Rattle.station.specs.declared.answer.Answer.{Answer}
use Rattle.station.specs.declared.done.Done.{Done}

pub record Reply : Type 0 where
  pub answer : Result Answer Refusal
  pub rec : Record
  pub frames : List ℕ
  pub deliveries : List ℕ

-- a refusal leaves the record as it was and no bytes
abbrev pub refused : Record → Refusal → Reply
refused r why = record { answer = Err why; rec = r; frames = []; deliveries = [] }

-- a question at the door: 'no' is a refusal, else the rest decides
abbrev pub asks : Record → Bool → Refusal → Reply → Reply
asks r question why rest = cond question rest (refused r why)

-- ---- of a call on a record by value: the answer and the record

abbrev pub done_of : Reply → Done
done_of reply = record { answer = reply.answer; rec = reply.rec }

-- ---- of a call on a record in lent bytes

-- the station's bytes afterwards: those of the record, followed by what stood after them; a refusal leaves every byte as it was
abbrev pub station_after : Reply → List ℕ → List ℕ
station_after reply s = cond (is_taken reply.answer) (record_bytes reply.rec ++ drop record_size s) s

-- the answer as it is
abbrev pub answered : Result Answer Refusal → Result Answer Refusal
answered a = a

-- the call does what the reply says: what it answers (the answer as it is, or in document 01's numbers), the station's bytes before and
-- after, and the same of the buffers for frames and for deliveries. A call without such a buffer says [] []
pub record Does {A : Type 0} (said : Result Answer Refusal → A) (reply : Reply) (answer : A) (s s' f f' d d' : List ℕ) : Type 0 where
  pub answers : answer ≡ said reply.answer
  pub station : s' ≡ station_after reply s
  pub frames : f' ≡ followed_by reply.frames f
  pub deliveries : d' ≡ followed_by reply.deliveries d
