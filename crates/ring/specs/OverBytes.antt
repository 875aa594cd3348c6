-- Demand 3 for records as bytes of the documented layout, as hosts in C lend them.
-- [document 01, The station and its neighbours]
use Rattle.std.specs.Prelude.{ℕ, ◌<◌, ◌≤◌, ◌≡◌, true, List, [], length, get_or, take}
use Rattle.words.specs.Word.{Bytes}
use Rattle.frames.specs.Layout.{shortest_token}
use Rattle.record.specs.Layout.{record_size}
use Rattle.record.specs.Lent.{lent, bytes_whole}
use Rattle.station.specs.Reply.{Reply}
use Rattle.station.specs.Over.{ids_in, found_over, post_over, arrive_over, resend_over}
use Rattle.station.specs.Reply.{station_after}
use Rattle.ring.specs.Calls.{Call, post, arrival, resending, reply_to}
use Rattle.ring.specs.Run.{ring_foundable, first_frame, Representation, Account, account_of}
use Rattle.ring.specs.Demand.{CanAfter, WholeRun}
use Rattle.ring.specs.Listed.{ListedInOrder}
use Rattle.ring.specs.AlwaysWhole.{RecordsWhole}
use Rattle.ring.specs.Newest.{NewestAccepted}

-- stations whose records are bytes: a call is made on the record in them
abbrev pub lent_bytes : Representation (List ℕ)
lent_bytes =
    record {
      reply_of = λ s c. reply_to (lent s) c;
      leaves = λ s c. station_after (reply_to (lent s) c) s;
      is_whole = bytes_whole;
    }

-- these are the calls over C; a resending there doesn't write the bytes, and it leaves them as they are
pub record CallsOver : Type 0 where
  pub posts : (s : List ℕ) (place service : ℕ) (content : List ℕ) → lent_bytes.reply_of s (post place service content) ≡ post_over s service content
  pub arrivals : (s : List ℕ) (place : ℕ) (frame frames deliveries : List ℕ)
      → lent_bytes.reply_of s (arrival place frame frames deliveries) ≡ arrive_over s frame (length frames) (length deliveries)
  pub resendings : (s : List ℕ) (place : ℕ) (frames : List ℕ) → lent_bytes.reply_of s (resending place frames) ≡ resend_over s (length frames)
  pub unwritten : (s : List ℕ) (place : ℕ) (frames : List ℕ) → Bytes s → lent_bytes.leaves s (resending place frames) ≡ s

-- ---- founding, each member in a buffer of its own, with a buffer for the token

-- over C, at a place; `list` has the members, two bytes an id, and the token's buffers are `rooms` long
abbrev pub founded_over : List ℕ → ℕ → (ℕ → List ℕ) → (ℕ → ℕ) → ℕ → Reply
founded_over list ring buffers rooms p = found_over (buffers p) list (get_or (ids_in list) p 0) ring (rooms p)

-- the bytes of the record that founding left at the front of each member's buffer: those that the host lends from then on
abbrev pub bytes_founded : List ℕ → ℕ → (ℕ → List ℕ) → (ℕ → ℕ) → ℕ → List ℕ
bytes_founded list ring buffers rooms p = take record_size (station_after (founded_over list ring buffers rooms p) (buffers p))

-- in a buffer of exactly a record's length these are all its bytes
abbrev pub ExactBuffer : Type 0
ExactBuffer = (list : List ℕ) (ring : ℕ) (buffers : ℕ → List ℕ) (rooms : ℕ → ℕ) (p : ℕ)
    → length (buffers p) ≡ record_size
    → bytes_founded list ring buffers rooms p ≡ station_after (founded_over list ring buffers rooms p) (buffers p)

-- the members' buffers are large enough for a record and a token
pub record LargeEnough (members : List ℕ) (buffers : ℕ → List ℕ) (rooms : ℕ → ℕ) : Type 0 where
  pub long : (p : ℕ) → p < length members → record_size ≤ length (buffers p)
  pub room : (p : ℕ) → p < length members → shortest_token ≤ rooms p

-- a ring that can be founded, in such buffers
pub record Founding (list : List ℕ) (ring : ℕ) (buffers : ℕ → List ℕ) (rooms : ℕ → ℕ) : Type 0 where
  pub foundable : ring_foundable (ids_in list) ring ≡ true
  pub large : LargeEnough (ids_in list) buffers rooms

-- every founding over bytes writes the ring's first token
abbrev pub FirstOverBytes : Type 0
FirstOverBytes = (list : List ℕ) (ring : ℕ) (buffers : ℕ → List ℕ) (rooms : ℕ → ℕ)
    → Founding list ring buffers rooms
    → (p : ℕ) → p < length (ids_in list) → (founded_over list ring buffers rooms p).frames ≡ first_frame (ids_in list) ring

-- ---- demand 3, and all else that is said of calls

module _ (list : List ℕ) (ring : ℕ) (buffers : ℕ → List ℕ) (rooms : ℕ → ℕ) where
  abbrev pub over_bytes : Account
  over_bytes = account_of lent_bytes (bytes_founded list ring buffers rooms)

  -- the first token on the cable is the one that founding over bytes writes too (`FirstOverBytes`)
  abbrev pub CanOver : List Call → Type 0
  CanOver calls = CanAfter (ids_in list) ring over_bytes [] calls

-- it holds for every ring founded so, and every list of calls
abbrev pub EveryRunOver : (List ℕ → ℕ → Account → List Call → Type 0) → Type 0
EveryRunOver P = (list : List ℕ) (ring : ℕ) (buffers : ℕ → List ℕ) (rooms : ℕ → ℕ)
    → Founding list ring buffers rooms
    → (calls : List Call)
    → CanOver list ring buffers rooms calls
    → P (ids_in list) ring (over_bytes list ring buffers rooms) calls

abbrev pub Demand₃OverBytes : Type 0
Demand₃OverBytes = EveryRunOver WholeRun

abbrev pub ListedOverBytes : Type 0
ListedOverBytes = EveryRunOver ListedInOrder

abbrev pub NeverRefusedOverBytes : Type 0
NeverRefusedOverBytes = EveryRunOver NewestAccepted

abbrev pub AlwaysWholeOverBytes : Type 0
AlwaysWholeOverBytes = EveryRunOver RecordsWhole
