-- What arrival's code hands from one step to the next, in the terms of Message.antt and Visit.antt. Nothing new is said here: each field
-- is a quantity of theirs, and each condition follows from theirs.
use Rattle.std.specs.Prelude.{ℕ, ◌+◌, ◌≡◌, true, ◌||◌, cond, List, ◌++◌, map, length, ltb, eqb, Option, Some, None}
use Rattle.frames.specs.Message.{message_follows}
use Rattle.frames.specs.declared.message.Message.{Message}
use Rattle.frames.specs.declared.number.MessageNumber.{MessageNumber}
use Rattle.record.specs.inner.Head.{head_with, head_with_parts, head_of, log_on, record_in}
use Rattle.record.specs.declared.head.LogHead.{LogHead}
use Rattle.record.specs.declared.head.Head.{Head}
use Rattle.record.specs.declared.log.Log.{Log}
use Rattle.visit.specs.Deliver.{ring_header, entry_of, frame_of, joined}
use Rattle.visit.specs.Message.{entry_in, resend_ended}
use Rattle.visit.specs.Acceptable.{visit}
use Rattle.visit.specs.Visit.{Visit, log, unanswered, repeats, new_count, new_numbers, log_now, own_or_nobody, aru', blocker', safe', deaf, broadcasts, turn'}
use Rattle.visit.specs.declared.broadcasting.Sent.{Sent}
use Rattle.visit.specs.declared.marks.Reach.{Reach}
use Rattle.visit.specs.declared.forwarding.Forwarded.{Forwarded}
use Rattle.visit.specs.declared.held_log.HeldLog.{HeldLog}
use Rattle.visit.specs.declared.token_visit.TokenVisit.{TokenVisit}

-- the visit that these make up
abbrev pub visit_of : TokenVisit → Visit
visit_of v = visit (record_in v.head.now v.bytes.now) v.token.now

-- ---- a log that is lent, and the frames of numbers that it holds, one after another

abbrev pub held_log : HeldLog → Log
held_log h = log_on h.log.now h.contents.now

abbrev pub frames_of : Log → List ℕ → List ℕ
frames_of l numbers = joined (map (frame_of l) numbers)

-- ---- a message that has just been kept: it is held as it came
pub record JustKept (l : Log) (m : Message) (content : List ℕ) : Type 0 where
  pub header : ring_header l ≡ m.header
  pub entry : entry_of l m.number.0 ≡ entry_in m content
  pub follows : message_follows m content ≡ true

-- so many are delivered
abbrev pub head_delivered : LogHead → ℕ → LogHead
head_delivered l n = head_with l l.level l.safe (record { 0 = l.delivered.0 + n }) l.senders l.services l.lengths

-- its delivery over: the log's new head, and the leave to resend has ended
abbrev pub head_heard : Head → LogHead → Head
head_heard h log = head_with_parts h log (resend_ended h.turn) h.posts

-- step 2, written out
abbrev pub repeat_frames : Visit → List (List ℕ)
repeat_frames v = map (frame_of (log v)) (repeats v)

-- step 3, written out
abbrev pub new_frames : Visit → List (List ℕ)
new_frames v = map (frame_of (log_now v)) (new_numbers v)

abbrev pub sent_frames : Visit → List (List ℕ)
sent_frames v = repeat_frames v ++ new_frames v

-- after step 3, the contents of the new messages still to be moved
unfoldable pub sent_of : Visit → Sent
sent_of v =
    record {
      log = head_of (log_now v);
      rest = unanswered v;
      added = new_count v;
      count = broadcasts v;
      size = length (joined (repeat_frames v));
    }

-- step 4, from the level, the highest number, and the token's aru and blocker
abbrev pub reach_after : ℕ → MessageNumber → MessageNumber → MessageNumber → Option ℕ → Reach
reach_after own level highest aru blocker =
    let sets = ltb level.0 aru.0 || own_or_nobody own blocker in
    record {
      aru = cond sets level aru;
      blocker = cond sets (cond (eqb level.0 highest.0) None (Some own)) blocker;
    }

-- after step 4
unfoldable pub reach_of : Visit → Reach
reach_of v = record { aru = record { 0 = aru' v }; blocker = blocker' v }

-- after step 8
unfoldable pub forwarded_of : Visit → Forwarded
forwarded_of v = record { turn = turn' v; safe = record { 0 = safe' v }; deaf = deaf v }
