-- Ids, and the numbers of rings, messages and tokens. [document 01, Frames]
use Rattle.std.specs.Prelude.{ℕ, Bool, ◌&&◌, leb}

abbrev pub most_number : ℕ
most_number = 2000000000

-- a ring, message or token number
abbrev pub is_number : ℕ → Bool
is_number n = leb 1 n && leb n most_number

abbrev pub most_id : ℕ
most_id = 65535

-- in the range of ids; whether it is a member's is question 14
abbrev pub is_id : ℕ → Bool
is_id n = leb 1 n && leb n most_id
