-- A ring of stations for programs: their records stand one after another in lent bytes, place p's from record_size * p on. Each call at a
-- place is the call over bytes on the record there. [document 01, The station and its neighbours; Trials: the bench]
use Rattle.std.specs.Prelude.{ℕ, zero, suc, ◌+◌, ◌*◌, ◌-◌, ◌<◌, ◌≡◌, Bool, true, false, cond, List, [], ◌∷◌, ◌++◌, length, get_or, take, drop, leb, eqb, Option, Some, None, Result, Ok, Err}
use Rattle.frames.specs.Layout.{shortest_token}
use Rattle.frames.specs.Read.{read_of}
use Rattle.frames.specs.declared.refusal.Refusal.{Refusal as Unread}
use Rattle.frames.specs.declared.reader.Frame.{Frame}
use Rattle.frames.specs.declared.reader.Frame.TheVariants.{Message as IsMessage, Token as IsToken}
use Rattle.record.specs.Layout.{record_size}
use Rattle.record.specs.Lent.{no_record}
use Rattle.station.specs.Reply.{Reply, refused}
use Rattle.visit.specs.Output.{followed_by, most_frames}
use Rattle.visit.specs.Within.{frames_in}
use Rattle.station.specs.declared.refusal.Refusal.TheVariants.{NoRoom}
use Rattle.station.specs.Answer.{is_taken}
use Rattle.station.specs.Over.{ids_in, found_over, post_over, arrive_over}
use Rattle.station.specs.Reply.{station_after}
use Rattle.ring.specs.OverBytes.{bytes_founded, Founding}

-- ---- a place

-- the bytes of the record at a place; past the end they are too few, so that no record is there
abbrev pub record_at : ℕ → List ℕ → List ℕ
record_at p records = take record_size (drop (record_size * p) records)

-- other bytes at a place, and all else as it was
abbrev pub with_record : ℕ → List ℕ → List ℕ → List ℕ
with_record p s records = take (record_size * p) records ++ (s ++ drop (record_size * p + record_size) records)

-- the records after a call at a place that gave this reply
abbrev pub records_after : ℕ → Reply → List ℕ → List ℕ
records_after p reply records = with_record p (station_after reply (record_at p records)) records

-- ---- posting, and a frame that arrives

abbrev pub posted_at : ℕ → List ℕ → ℕ → List ℕ → Reply
posted_at p records service content = post_over (record_at p records) service content

abbrev pub arrived_at : ℕ → List ℕ → List ℕ → ℕ → ℕ → Reply
arrived_at p records frame frames deliveries = arrive_over (record_at p records) frame frames deliveries

-- ---- founding a ring: each member's station at its place

-- 1 asks for a record's length for each member. The first member's founding answers for all, and writes the ring's first token: of the
-- other questions only 5 looks at the own id, and every member is among them
unfoldable pub ring_founded : List ℕ → List ℕ → ℕ → ℕ → Reply
ring_founded records list ring room =
    cond (leb (record_size * length (ids_in list)) (length records))
    (found_over (record_at 0 records) list (get_or (ids_in list) 0 0) ring room)
    (refused no_record NoRoom)

-- the records of the first n members, each as founding over bytes leaves it: those that demand 3 over bytes starts from
unfoldable pub records_founded : List ℕ → ℕ → List ℕ → ℕ → List ℕ
records_founded list ring records zero = []
records_founded list ring records (suc n) = records_founded list ring records n ++ bytes_founded list ring (λ p. record_at p records) (λ p. shortest_token) n

-- the first n members have founded
abbrev pub founded_up_to : List ℕ → ℕ → List ℕ → ℕ → List ℕ
founded_up_to list ring records n = records_founded list ring records n ++ drop (record_size * n) records

-- all records afterwards; a refusal leaves every byte as it was
unfoldable pub ring_after : List ℕ → List ℕ → ℕ → ℕ → List ℕ
ring_after records list ring room =
    cond (is_taken (ring_founded records list ring room).answer)
    (founded_up_to list ring records (length (ids_in list)))
    records

-- a ring that was founded so is one of those that demand 3 over bytes speaks of, and begins with the records that it speaks of
abbrev pub FoundedForDemand : Type 0
FoundedForDemand = (records list : List ℕ) (ring room : ℕ)
    → is_taken (ring_founded records list ring room).answer ≡ true
    → Founding list ring (λ p. record_at p records) (λ p. shortest_token)
    × ((p : ℕ) → p < length (ids_in list)
    → record_at p (ring_after records list ring room) ≡ bytes_founded list ring (λ q. record_at q records) (λ q. shortest_token) p)

-- ---- broadcasts reach one place: the message frames within the bytes that a call wrote, in the order written, one arrival each

abbrev pub is_message : Result Frame Unread → Bool
is_message (Err why) = false
is_message (Ok (IsMessage m)) = true
is_message (Ok (IsToken t)) = false

-- what a place has come to: the bytes of its record, and what it has handed out, joined
pub record HeardThere : Type 0 where
  pub bytes : List ℕ
  pub handed : List ℕ

-- a message more; `room` is how long the buffer for deliveries is in all
abbrev pub hears_message : ℕ → HeardThere → List ℕ → HeardThere
hears_message room h frame =
    let reply = arrive_over h.bytes frame most_frames (room - length h.handed) in
    record { bytes = station_after reply h.bytes; handed = h.handed ++ reply.deliveries }

-- a frame more; a token isn't for all
abbrev pub hears : ℕ → HeardThere → List ℕ → HeardThere
hears room h frame = cond (is_message (read_of frame)) (hears_message room h frame) h

-- a place before a frame reaches it, its deliveries so far in the first `at` bytes of a buffer
abbrev pub heard_so_far : ℕ → List ℕ → List ℕ → ℕ → HeardThere
heard_so_far p records deliveries at = record { bytes = record_at p records; handed = take at deliveries }

-- the records and the buffer after it, and the position after what was handed out
pub record Reached (p : ℕ) (records frame deliveries : List ℕ) (at after : ℕ) (records' deliveries' : List ℕ) : Type 0 where
  pub count : after ≡ length (hears (length deliveries) (heard_so_far p records deliveries at) frame).handed
  pub left : records' ≡ with_record p (hears (length deliveries) (heard_so_far p records deliveries at) frame).bytes records
  pub joined : deliveries' ≡ followed_by (hears (length deliveries) (heard_so_far p records deliveries at) frame).handed deliveries

unfoldable pub hears_all : ℕ → HeardThere → List (List ℕ) → HeardThere
hears_all room h [] = h
hears_all room h (frame ∷ frames) = hears_all room (hears room h frame) frames

unfoldable pub heard_at : ℕ → List ℕ → List ℕ → ℕ → HeardThere
heard_at p records written room = hears_all room (record { bytes = record_at p records; handed = [] }) (frames_in written)

-- ---- the addressee's place

-- the place of an id, counted from p on; none where it is nobody's
unfoldable pub place_from : ℕ → List ℕ → ℕ → Option ℕ
place_from p [] id = None
place_from p (x ∷ xs) id = cond (eqb x id) (Some p) (place_from (suc p) xs id)

-- whom a token is addressed to; 0 of what is no token
abbrev pub addressee_of : Result Frame Unread → ℕ
addressee_of (Err why) = 0
addressee_of (Ok (IsMessage m)) = 0
addressee_of (Ok (IsToken t)) = t.addressee

-- in a list of two bytes an id
unfoldable pub addressee_place : List ℕ → List ℕ → Option ℕ
addressee_place list token = place_from 0 (ids_in list) (addressee_of (read_of token))
