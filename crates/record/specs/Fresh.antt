-- A fresh record: all marks and counts 0, nothing held or waiting, and no leave to resend. [document 01, The station record]
use Rattle.std.specs.Prelude.{ℕ, ◌-◌, List, ◌++◌, length, replicate}
use Rattle.frames.specs.Layout.{longest_token}
use Rattle.record.specs.Size.{most_members, most_held, most_posts, held_contents, post_contents}
use Rattle.record.specs.declared.log.Held.{Held}
use Rattle.record.specs.declared.log.Log.{Log}
use Rattle.record.specs.declared.turn.Turn.{Turn}
use Rattle.record.specs.declared.posts.Posts.{Posts}
use Rattle.record.specs.declared.Record.{Record}

unfoldable pub fresh_held : Held
fresh_held =
    record {
      senders = replicate most_held 0;
      services = replicate most_held 0;
      lengths = replicate most_held 0;
      contents = replicate held_contents 0;
    }

-- the list of members, then zeros
unfoldable pub members_placed : List ℕ → List ℕ
members_placed ids = ids ++ replicate (most_members - length ids) 0

unfoldable pub fresh_log : List ℕ → ℕ → Log
fresh_log ids ring =
    record {
      ring = record { 0 = ring };
      count = length ids;
      members = members_placed ids;
      level = record { 0 = 0 };
      safe = record { 0 = 0 };
      delivered = record { 0 = 0 };
      held = fresh_held;
    }

unfoldable pub fresh_turn : Turn
fresh_turn =
    record {
      aru = record { 0 = 0 };
      earlier = record { 0 = 0 };
      number = record { 0 = 0 };
      broadcast = 0;
      stall = 0;
      waited = 0;
      size = 0;
      token = replicate longest_token 0;
    }

unfoldable pub fresh_posts : Posts
fresh_posts =
    record {
      count = 0;
      services = replicate most_posts 0;
      lengths = replicate most_posts 0;
      contents = replicate post_contents 0;
    }

unfoldable pub fresh : List ℕ → ℕ → ℕ → Record
fresh ids own ring = record { own = own; panel = 0; log = fresh_log ids ring; turn = fresh_turn; posts = fresh_posts }
