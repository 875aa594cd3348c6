-- How much a station keeps. [document 01, The station record; Questions at the door, 3 and 9]
use Rattle.std.specs.Prelude.{ℕ, ◌*◌}
use Rattle.frames.specs.Layout.{most_content}

abbrev pub least_members : ℕ
least_members = 2

abbrev pub most_members : ℕ
most_members = 8

-- messages held at once
abbrev pub most_held : ℕ
most_held = 32

-- posts waiting at once
abbrev pub most_posts : ℕ
most_posts = 16

-- broadcasts of one visit
abbrev pub most_broadcasts : ℕ
most_broadcasts = 16

abbrev pub most_stall : ℕ
most_stall = 255

-- the contents of all held messages, and of all waiting posts, each in one run of bytes
abbrev pub held_contents : ℕ
held_contents = most_held * most_content

abbrev pub post_contents : ℕ
post_contents = most_posts * most_content
