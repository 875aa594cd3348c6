-- What holds of every arrival: of any record, whole or not, any bytes and buffers of any length. [document 01, A message arrives; A token
-- is accepted]
use Rattle.std.specs.Prelude.{ℕ, ◌≤◌, ◌≡◌, List, length}
use Rattle.frames.specs.Message.{content_of}
use Rattle.frames.specs.Read.{read_of, a_message, a_token}
use Rattle.frames.specs.declared.message.Message.{Message}
use Rattle.frames.specs.declared.token.Token.{Token}
use Rattle.record.specs.declared.Record.{Record}
use Rattle.visit.specs.Output.{most_frames, most_deliveries}
use Rattle.visit.specs.Acceptable.{Hearable, Acceptable, visit}
use Rattle.station.specs.Reply.{Reply, refused}
use Rattle.station.specs.EveryReply.{Good}
use Rattle.station.specs.Arrive.{message_heard, accepted, arrived}
use Rattle.station.specs.declared.refusal.Refusal.{Refusal}

-- ---- a refusal leaves all as it was, the counts are those of the bytes, and a whole record stays whole

abbrev pub ArrivedGood : Type 0
ArrivedGood = (r : Record) (frame : List ℕ) (frames deliveries : ℕ) → Good r (arrived r frame frames deliveries)

-- ---- an arrival is refused, or a message is heard, or a token is accepted

pub data ArrivedCase (r : Record) (frame : List ℕ) (reply : Reply) : Type 0 where
  refuses : (why : Refusal) → reply ≡ refused r why → ArrivedCase r frame reply
  hears : (m : Message)
      → read_of frame ≡ a_message m
      → Hearable r m (content_of frame)
      → reply ≡ message_heard r m (content_of frame)
      → ArrivedCase r frame reply
  accepts : (t : Token)
      → read_of frame ≡ a_token t
      → Acceptable (visit r t)
      → reply ≡ accepted (visit r t)
      → ArrivedCase r frame reply

abbrev pub ArrivedCases : Type 0
ArrivedCases = (r : Record) (frame : List ℕ) (frames deliveries : ℕ) → ArrivedCase r frame (arrived r frame frames deliveries)

-- ---- question 1's sizes always suffice

abbrev pub ArrivedFits : Type 0
ArrivedFits = (r : Record) (frame : List ℕ) (frames deliveries : ℕ)
    → (length (arrived r frame frames deliveries).frames ≤ most_frames)
    × (length (arrived r frame frames deliveries).deliveries ≤ most_deliveries)
