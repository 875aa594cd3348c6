-- Arrival of a frame. [document 01, Questions at the door: 1, 2, 10 to 18]
use Rattle.std.specs.Prelude.{ℕ, ◌&&◌, List, [], leb, ltb, eqb, Result, Ok, Err}
use Rattle.frames.specs.Number.{most_number}
use Rattle.frames.specs.Message.{content_of}
use Rattle.frames.specs.Read.{read_of}
use Rattle.frames.specs.declared.refusal.Refusal.{Refusal as Unread}
use Rattle.frames.specs.declared.refusal.Refusal.TheVariants.{NoRoom as NoRoomToWrite, WrongLength as ReadLength, OtherKind as ReadKind, Malformed as ReadLayout}
use Rattle.frames.specs.declared.message.Message.{Message}
use Rattle.frames.specs.declared.token.Token.{Token}
use Rattle.frames.specs.declared.reader.Frame.{Frame}
use Rattle.frames.specs.declared.reader.Frame.TheVariants.{Message as IsMessage, Token as IsToken}
use Rattle.record.specs.Members.{is_member}
use Rattle.record.specs.Ring.{current, ids, this_ring, token_members}
use Rattle.record.specs.Whole.{whole}
use Rattle.record.specs.declared.Record.{Record}
use Rattle.station.specs.Reply.{Reply, refused, asks}
use Rattle.visit.specs.Output.{most_frames, most_deliveries}
use Rattle.visit.specs.Deliver.{joined}
use Rattle.visit.specs.Message.{heard_of, rec_heard, handed_heard}
use Rattle.visit.specs.Visit.{Visit, rec', written, handed, visited_of}
use Rattle.visit.specs.Acceptable.{covers_held, visit}
use Rattle.visit.specs.declared.hearing.Hearing.{Hearing}
use Rattle.visit.specs.declared.hearing.Hearing.TheVariants.{WasHad, IsAhead, IsKept}
use Rattle.station.specs.declared.answer.Answer.{Answer}
use Rattle.station.specs.declared.answer.Answer.TheVariants.{Kept, Had, Ahead, Accepted}
use Rattle.station.specs.declared.refusal.Refusal.{Refusal}
use Rattle.station.specs.declared.refusal.Refusal.TheVariants.{NoRoom, NotWhole, WrongLength, OtherKind, Malformed, OtherRing, NotMember, OtherAddressee, OldToken, LastToken, BelowHeld}

-- 10 to 12 are the reader's. It never answers that there is no room: the enum has that for the writer
abbrev pub reader_refusal : Unread → Refusal
reader_refusal NoRoomToWrite = NoRoom
reader_refusal ReadLength = WrongLength
reader_refusal ReadKind = OtherKind
reader_refusal ReadLayout = Malformed

-- a message's arrival: had, ahead or kept, and how many bytes are delivered
abbrev pub heard_answer : Hearing → ℕ → Answer
heard_answer WasHad n = Had n
heard_answer IsAhead n = Ahead n
heard_answer IsKept n = Kept n

unfoldable pub message_heard : Record → Message → List ℕ → Reply
message_heard r m content =
    record {
      answer = Ok (heard_answer (heard_of r m content).how (heard_of r m content).size);
      rec = rec_heard r m content;
      frames = [];
      deliveries = handed_heard r m content;
    }

-- a token's: how many bytes are written and delivered, and the notice 'deaf'
unfoldable pub accepted : Visit → Reply
accepted v =
    record {
      answer = Ok (Accepted (visited_of v).frames (visited_of v).deliveries (visited_of v).deaf);
      rec = rec' v;
      frames = joined (written v);
      deliveries = handed v;
    }

-- 13 and 14, of a message
unfoldable pub message_arrived : Record → Message → List ℕ → Reply
message_arrived r m content =
    asks r (this_ring (current r).ring.0 (ids (current r)) m.header) OtherRing
    (asks r (is_member (ids (current r)) m.sender) NotMember
    (message_heard r m content))

-- 13 to 18, of a token. Figure 3 drops a token whose token_seq is not above my_token_seq: 16
unfoldable pub token_arrived : Record → Token → Reply
token_arrived r t =
    asks r (this_ring (current r).ring.0 (ids (current r)) t.header) OtherRing
    (asks r (token_members (ids (current r)) t) NotMember
    (asks r (eqb t.addressee r.own) OtherAddressee
    (asks r (ltb r.turn.number.0 t.number.0) OldToken
    (asks r (ltb t.number.0 most_number) LastToken
    (asks r (covers_held (current r) t.highest.0) BelowHeld
    (accepted (visit r t)))))))

-- by what the reader says
abbrev pub frame_arrived : Record → List ℕ → Result Frame Unread → Reply
frame_arrived r frame (Err why) = refused r (reader_refusal why)
frame_arrived r frame (Ok (IsMessage m)) = message_arrived r m (content_of frame)
frame_arrived r frame (Ok (IsToken t)) = token_arrived r t

-- `frames` and `deliveries`: the lengths of the two buffers
unfoldable pub arrived : Record → List ℕ → ℕ → ℕ → Reply
arrived r frame frames deliveries =
    asks r (leb most_frames frames && leb most_deliveries deliveries) NoRoom
    (asks r (whole r) NotWhole
    (frame_arrived r frame (read_of frame)))
