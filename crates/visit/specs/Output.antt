-- Output buffers: question 1's bounds, and what a buffer holds afterwards. [document 01, Questions at the door: 1]
use Rattle.std.specs.Prelude.{ℕ, ◌+◌, ◌*◌, List, ◌++◌, length, drop}
use Rattle.frames.specs.Layout.{longest_message, longest_token}
use Rattle.record.specs.Size.{most_held, most_broadcasts}

-- the bound on the buffer for frames: what a visit broadcasts at most, and the token
abbrev pub most_frames : ℕ
most_frames = most_broadcasts * longest_message + longest_token

-- and on the buffer for deliveries: all that is held
abbrev pub most_deliveries : ℕ
most_deliveries = most_held * longest_message

-- an output buffer afterwards: the bytes written, followed by what stood after them
abbrev pub followed_by : List ℕ → List ℕ → List ℕ
followed_by bytes out = bytes ++ drop (length bytes) out
