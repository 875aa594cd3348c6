-- A head over contents that are lent: the log, the posts and the record that they make up.
use Rattle.std.specs.Prelude.{ℕ, ◌+◌, List}
use Rattle.frames.specs.declared.number.MessageNumber.{MessageNumber}
use Rattle.record.specs.Size.{held_contents, post_contents}
use Rattle.record.specs.Layout.{log_at, posts_at, held_messages_at, held_contents_at, post_contents_at}
use Rattle.record.specs.Bytes.{bytes_at}
use Rattle.record.specs.Panel.{undelivered}
use Rattle.record.specs.declared.head.LogHead.{LogHead}
use Rattle.record.specs.declared.head.PostsHead.{PostsHead}
use Rattle.record.specs.declared.head.Head.{Head}
use Rattle.record.specs.declared.log.Held.{Held}
use Rattle.record.specs.declared.log.Log.{Log}
use Rattle.record.specs.declared.turn.Turn.{Turn}
use Rattle.record.specs.declared.posts.Posts.{Posts}
use Rattle.record.specs.declared.Record.{Record}

-- the messages that these arrays hold
abbrev pub held_from : List ℕ → List ℕ → List ℕ → List ℕ → Held
held_from senders services lengths contents = record { senders = senders; services = services; lengths = lengths; contents = contents }

abbrev pub held_on : LogHead → List ℕ → Held
held_on l contents = held_from l.senders l.services l.lengths contents

abbrev pub log_on : LogHead → List ℕ → Log
log_on l contents =
    record {
      ring = l.ring;
      count = l.count;
      members = l.members;
      level = l.level;
      safe = l.safe;
      delivered = l.delivered;
      held = held_on l contents;
    }

abbrev pub posts_on : PostsHead → List ℕ → Posts
posts_on p contents = record { count = p.count; services = p.services; lengths = p.lengths; contents = contents }

-- a panel's count, the contents of the held messages, and of the waiting posts
abbrev pub record_showing : ℕ → Head → List ℕ → List ℕ → Record
record_showing panel h contents waiting = record { own = h.own; panel = panel; log = log_on h.log contents; turn = h.turn; posts = posts_on h.posts waiting }

-- the count as it has to be
abbrev pub record_on : Head → List ℕ → List ℕ → Record
record_on h contents waiting = record_showing (undelivered (log_on h.log contents)) h contents waiting

-- a head with other parts, as `with_parts` of a record
abbrev pub head_with_parts : Head → LogHead → Turn → PostsHead → Head
head_with_parts h log turn posts = record { own = h.own; log = log; turn = turn; posts = posts }

-- the head of a log with other marks and other messages
abbrev pub head_with : LogHead → MessageNumber → MessageNumber → MessageNumber → List ℕ → List ℕ → List ℕ → LogHead
head_with l level safe delivered senders services lengths =
    record {
      ring = l.ring;
      count = l.count;
      members = l.members;
      level = level;
      safe = safe;
      delivered = delivered;
      senders = senders;
      services = services;
      lengths = lengths;
    }

-- ---- the contents in a record's bytes: of the log that stands at `at`, and of the posts that stand there

abbrev pub contents_in : List ℕ → ℕ → List ℕ
contents_in s at = bytes_at held_contents s (at + held_messages_at + held_contents_at)

abbrev pub waiting_in : List ℕ → ℕ → List ℕ
waiting_in s at = bytes_at post_contents s (at + post_contents_at)

-- the record in these bytes, with this head in place of its own
abbrev pub record_in : Head → List ℕ → Record
record_in h s = record_on h (contents_in s log_at) (waiting_in s posts_at)

-- the head of a log: all but the contents
abbrev pub head_of : Log → LogHead
head_of l =
    record {
      ring = l.ring;
      count = l.count;
      members = l.members;
      level = l.level;
      safe = l.safe;
      delivered = l.delivered;
      senders = l.held.senders;
      services = l.held.services;
      lengths = l.held.lengths;
    }

-- the head of the waiting posts
abbrev pub posts_head : Posts → PostsHead
posts_head p = record { count = p.count; services = p.services; lengths = p.lengths }

-- the head of a record
abbrev pub record_head : Record → Head
record_head r =
    record {
      own = r.own;
      log = head_of r.log;
      turn = r.turn;
      posts = posts_head r.posts;
    }
