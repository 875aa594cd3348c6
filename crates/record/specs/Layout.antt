-- Where each field of the record stands in its bytes, counted from the first byte of the part that it belongs to: behind the one
-- before it, by that one's size. And how long each part is. docs/RECORD.md has the same as one table from the record's first byte. [document 01, The station and its neighbours]
use Rattle.std.specs.Prelude.{ℕ, ◌+◌, ◌*◌}
use Rattle.frames.specs.Layout.{longest_token}
use Rattle.record.specs.Size.{most_members, most_held, most_posts, held_contents, post_contents}

-- ---- the held messages

abbrev pub senders_at : ℕ
senders_at = 0

abbrev pub held_services_at : ℕ
held_services_at = senders_at + 2 * most_held

abbrev pub held_lengths_at : ℕ
held_lengths_at = held_services_at + 2 * most_held

abbrev pub held_contents_at : ℕ
held_contents_at = held_lengths_at + most_held

abbrev pub held_size : ℕ
held_size = held_contents_at + held_contents

-- ---- the log

abbrev pub log_ring_at : ℕ
log_ring_at = 0

abbrev pub member_count_at : ℕ
member_count_at = log_ring_at + 4

abbrev pub members_at : ℕ
members_at = member_count_at + 1

abbrev pub level_at : ℕ
level_at = members_at + 2 * most_members

abbrev pub safe_at : ℕ
safe_at = level_at + 4

abbrev pub delivered_at : ℕ
delivered_at = safe_at + 4

abbrev pub held_messages_at : ℕ
held_messages_at = delivered_at + 4

abbrev pub log_size : ℕ
log_size = held_messages_at + held_size

-- ---- the turn

abbrev pub turn_aru_at : ℕ
turn_aru_at = 0

abbrev pub earlier_at : ℕ
earlier_at = turn_aru_at + 4

abbrev pub turn_number_at : ℕ
turn_number_at = earlier_at + 4

abbrev pub broadcast_at : ℕ
broadcast_at = turn_number_at + 4

abbrev pub stall_at : ℕ
stall_at = broadcast_at + 1

abbrev pub waited_at : ℕ
waited_at = stall_at + 1

abbrev pub token_size_at : ℕ
token_size_at = waited_at + 1

abbrev pub token_at : ℕ
token_at = token_size_at + 1

abbrev pub turn_size : ℕ
turn_size = token_at + longest_token

-- ---- the waiting posts

abbrev pub post_count_at : ℕ
post_count_at = 0

abbrev pub post_services_at : ℕ
post_services_at = post_count_at + 1

abbrev pub post_lengths_at : ℕ
post_lengths_at = post_services_at + 2 * most_posts

abbrev pub post_contents_at : ℕ
post_contents_at = post_lengths_at + most_posts

abbrev pub posts_size : ℕ
posts_size = post_contents_at + post_contents

-- ---- the record: own id, the panel's count, log, turn, posts

abbrev pub own_at : ℕ
own_at = 0

-- what the panel reads; it never moves again
abbrev pub panel_at : ℕ
panel_at = own_at + 2

abbrev pub log_at : ℕ
log_at = panel_at + 1

abbrev pub turn_at : ℕ
turn_at = log_at + log_size

abbrev pub posts_at : ℕ
posts_at = turn_at + turn_size

abbrev pub record_size : ℕ
record_size = posts_at + posts_size
