-- The lengths of a record's arrays. A list has any length in a definition, so laws ask for these.
use mathlib.Core.Path.{◌≡◌}
use lib.ListN.{length}
use Rattle.frames.specs.Layout.{longest_token}
use Rattle.record.specs.Size.{most_members, most_held, most_posts, held_contents, post_contents}
use Rattle.record.specs.declared.head.LogHead.{LogHead}
use Rattle.record.specs.declared.log.Held.{Held}
use Rattle.record.specs.declared.log.Log.{Log}
use Rattle.record.specs.declared.posts.Posts.{Posts}
use Rattle.record.specs.declared.Record.{Record}

pub record HeldArrays (h : Held) : Type 0 where
  pub senders : length h.senders ≡ most_held
  pub services : length h.services ≡ most_held
  pub lengths : length h.lengths ≡ most_held
  pub contents : length h.contents ≡ held_contents

pub record LogArrays (l : Log) : Type 0 where
  pub members : length l.members ≡ most_members
  pub held : HeldArrays l.held

pub record HeadArrays (l : LogHead) : Type 0 where
  pub members : length l.members ≡ most_members
  pub senders : length l.senders ≡ most_held
  pub services : length l.services ≡ most_held
  pub lengths : length l.lengths ≡ most_held

pub record PostsArrays (p : Posts) : Type 0 where
  pub services : length p.services ≡ most_posts
  pub lengths : length p.lengths ≡ most_posts
  pub contents : length p.contents ≡ post_contents

pub record RecordArrays (r : Record) : Type 0 where
  pub log : LogArrays r.log
  pub token : length r.turn.token ≡ longest_token
  pub posts : PostsArrays r.posts
