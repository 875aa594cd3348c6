-- Frames in a stream of bytes, one after another.
use Rattle.std.specs.Prelude.{ℕ, cond, List, length, leb, Option, Some, None}
use Rattle.frames.specs.Header.{framed_size}

-- a frame of that size, if it has come whole
abbrev pub come_whole : List ℕ → Option ℕ → Option ℕ
come_whole s None = None
come_whole s (Some n) = cond (leb n (length s)) (Some n) None

-- how long the frame is that a stream begins with; none while it has not come whole
abbrev pub whole_size : List ℕ → Option ℕ
whole_size s = come_whole s (framed_size s)
