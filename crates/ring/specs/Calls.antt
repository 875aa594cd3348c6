-- The calls of demand 3's list, and what each answers: the definitions that the contracts of posting, arrival and resending cite.
-- [document 01, The words of demand 3]
use Rattle.std.specs.Prelude.{ℕ, List, length}
use Rattle.record.specs.declared.Record.{Record}
use Rattle.station.specs.Reply.{Reply}
use Rattle.station.specs.Post.{posted}
use Rattle.station.specs.Resend.{resent}
use Rattle.station.specs.Arrive.{arrived}

-- each is made at the station of a place in the list of members. A post has any service and content; an arrival has a frame, and
-- output buffers for frames and deliveries of any length and bytes; a resending has a buffer for frames
pub data Call : Type 0 where
  post : (place service : ℕ) (content : List ℕ) → Call
  arrival : (place : ℕ) (frame frames deliveries : List ℕ) → Call
  resending : (place : ℕ) (frames : List ℕ) → Call

-- the place of the station where it is made
abbrev pub station_of : Call → ℕ
station_of (post place service content) = place
station_of (arrival place frame frames deliveries) = place
station_of (resending place frames) = place

abbrev pub reply_to : Record → Call → Reply
reply_to r (post place service content) = posted r service content
reply_to r (arrival place frame frames deliveries) = arrived r frame (length frames) (length deliveries)
reply_to r (resending place frames) = resent r (length frames)
