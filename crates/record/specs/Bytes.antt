-- The record's bytes: each part's fields one after another, in the order of Layout.antt, and each part read from the place where it
-- stands. [document 01, The station and its neighbours; docs/RECORD.md]
use Rattle.std.specs.Prelude.{ℕ, List, ◌++◌, take, drop}
use Rattle.words.specs.Word.{word_at, word_bytes}
use Rattle.words.specs.Run.{words, words_bytes}
use Rattle.frames.specs.Layout.{longest_token}
use Rattle.record.specs.Size.{most_members, most_held, most_posts, held_contents, post_contents}
use Rattle.record.specs.Layout.{own_at, panel_at, log_at, turn_at, posts_at, log_ring_at, member_count_at, members_at, level_at, safe_at, delivered_at, held_messages_at, senders_at, held_services_at, held_lengths_at, held_contents_at, turn_aru_at, earlier_at, turn_number_at, broadcast_at, stall_at, waited_at, token_size_at, token_at, post_count_at, post_services_at, post_lengths_at, post_contents_at}
use Rattle.record.specs.declared.log.Held.{Held}
use Rattle.record.specs.declared.log.Log.{Log}
use Rattle.record.specs.declared.turn.Turn.{Turn}
use Rattle.record.specs.declared.posts.Posts.{Posts}
use Rattle.record.specs.declared.Record.{Record}

-- n bytes from `at` on
abbrev pub bytes_at : ℕ → List ℕ → ℕ → List ℕ
bytes_at n s at = take n (drop at s)

-- ---- the held messages

unfoldable pub held_bytes : Held → List ℕ
held_bytes h = words_bytes 2 h.senders ++ words_bytes 2 h.services ++ h.lengths ++ h.contents

unfoldable pub held_of : List ℕ → Held
held_of s =
    record {
      senders = words 2 most_held (drop senders_at s);
      services = words 2 most_held (drop held_services_at s);
      lengths = bytes_at most_held s held_lengths_at;
      contents = bytes_at held_contents s held_contents_at;
    }

-- ---- the log

unfoldable pub log_bytes : Log → List ℕ
log_bytes l =
    word_bytes 4 l.ring.0
    ++ word_bytes 1 l.count
    ++ words_bytes 2 l.members
    ++ word_bytes 4 l.level.0
    ++ word_bytes 4 l.safe.0
    ++ word_bytes 4 l.delivered.0
    ++ held_bytes l.held

unfoldable pub log_of : List ℕ → Log
log_of s =
    record {
      ring = record { 0 = word_at 4 s log_ring_at };
      count = word_at 1 s member_count_at;
      members = words 2 most_members (drop members_at s);
      level = record { 0 = word_at 4 s level_at };
      safe = record { 0 = word_at 4 s safe_at };
      delivered = record { 0 = word_at 4 s delivered_at };
      held = held_of (drop held_messages_at s);
    }

-- ---- the turn

unfoldable pub turn_bytes : Turn → List ℕ
turn_bytes t =
    word_bytes 4 t.aru.0
    ++ word_bytes 4 t.earlier.0
    ++ word_bytes 4 t.number.0
    ++ word_bytes 1 t.broadcast
    ++ word_bytes 1 t.stall
    ++ word_bytes 1 t.waited
    ++ word_bytes 1 t.size
    ++ t.token

unfoldable pub turn_of : List ℕ → Turn
turn_of s =
    record {
      aru = record { 0 = word_at 4 s turn_aru_at };
      earlier = record { 0 = word_at 4 s earlier_at };
      number = record { 0 = word_at 4 s turn_number_at };
      broadcast = word_at 1 s broadcast_at;
      stall = word_at 1 s stall_at;
      waited = word_at 1 s waited_at;
      size = word_at 1 s token_size_at;
      token = bytes_at longest_token s token_at;
    }

-- ---- the waiting posts

unfoldable pub posts_bytes : Posts → List ℕ
posts_bytes p = word_bytes 1 p.count ++ words_bytes 2 p.services ++ p.lengths ++ p.contents

unfoldable pub posts_of : List ℕ → Posts
posts_of s =
    record {
      count = word_at 1 s post_count_at;
      services = words 2 most_posts (drop post_services_at s);
      lengths = bytes_at most_posts s post_lengths_at;
      contents = bytes_at post_contents s post_contents_at;
    }

-- ---- the record

unfoldable pub record_bytes : Record → List ℕ
record_bytes r = word_bytes 2 r.own ++ word_bytes 1 r.panel ++ log_bytes r.log ++ turn_bytes r.turn ++ posts_bytes r.posts

unfoldable pub record_of : List ℕ → Record
record_of s =
    record {
      own = word_at 2 s own_at;
      panel = word_at 1 s panel_at;
      log = log_of (drop log_at s);
      turn = turn_of (drop turn_at s);
      posts = posts_of (drop posts_at s);
    }
