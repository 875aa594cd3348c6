-- Where each field of a frame stands, in bytes from the frame's first, and how long a frame is. [document 01, Frames]
use Rattle.std.specs.Prelude.{ℕ, ◌+◌, ◌*◌}

-- ---- every frame

abbrev pub length_at : ℕ
length_at = 0

-- the length field counts the bytes after itself
abbrev pub length_size : ℕ
length_size = 2

-- a length field of two bytes gives a frame at most this size
abbrev pub most_framed : ℕ
most_framed = 65537

abbrev pub kind_at : ℕ
kind_at = 2

abbrev pub ring_at : ℕ
ring_at = 4

abbrev pub representative_at : ℕ
representative_at = 8

abbrev pub header_size : ℕ
header_size = 10

-- ---- kind 1, message

abbrev pub message_kind : ℕ
message_kind = 1

abbrev pub sender_at : ℕ
sender_at = 10

abbrev pub message_number_at : ℕ
message_number_at = 12

abbrev pub configuration_at : ℕ
configuration_at = 16

abbrev pub service_at : ℕ
service_at = 20

abbrev pub content_at : ℕ
content_at = 22

-- service 0 is agreed, 1 is safe
abbrev pub most_service : ℕ
most_service = 1

abbrev pub most_content : ℕ
most_content = 64

-- of a message with a content of n bytes
abbrev pub message_size : ℕ → ℕ
message_size n = content_at + n

abbrev pub longest_message : ℕ
longest_message = message_size most_content

-- ---- kind 2, token

abbrev pub token_kind : ℕ
token_kind = 2

abbrev pub addressee_at : ℕ
addressee_at = 10

abbrev pub token_number_at : ℕ
token_number_at = 12

abbrev pub highest_at : ℕ
highest_at = 16

abbrev pub aru_at : ℕ
aru_at = 20

abbrev pub blocker_at : ℕ
blocker_at = 24

abbrev pub round_at : ℕ
round_at = 26

abbrev pub backlog_at : ℕ
backlog_at = 28

abbrev pub count_at : ℕ
count_at = 30

abbrev pub requests_at : ℕ
requests_at = 32

abbrev pub most_round : ℕ
most_round = 128

abbrev pub most_backlog : ℕ
most_backlog = 128

abbrev pub most_requests : ℕ
most_requests = 16

-- of a token with n requests
abbrev pub token_size : ℕ → ℕ
token_size n = requests_at + 4 * n

-- without requests, as a ring's first token
abbrev pub shortest_token : ℕ
shortest_token = token_size 0

abbrev pub longest_token : ℕ
longest_token = token_size most_requests
