-- What every frame begins with: length, kind, ring number, representative's id. [document 01, Frames; the paper's type and ring_id]
use Rattle.std.specs.Prelude.{ℕ, ◌+◌, ◌-◌, Bool, ◌&&◌, cond, List, ◌++◌, length, leb, Option, Some, None}
use Rattle.words.specs.Word.{word_at, word_bytes}
use Rattle.frames.specs.Number.{is_number, is_id}
use Rattle.frames.specs.Layout.{length_at, length_size, ring_at, representative_at}
use Rattle.frames.specs.declared.header.Header.{Header}

-- how long a frame is by its own length field
abbrev pub own_size : List ℕ → ℕ
own_size s = length_size + word_at 2 s length_at

-- how long the frame is that a stream of bytes begins with; none while its length field has not come whole
unfoldable pub framed_size : List ℕ → Option ℕ
framed_size s = cond (leb length_size (length s)) (Some (own_size s)) None

unfoldable pub header_of : List ℕ → Header
header_of s = record { ring = record { 0 = word_at 4 s ring_at }; representative = word_at 2 s representative_at }

unfoldable pub header_follows : Header → Bool
header_follows h = is_number h.ring.0 && is_id h.representative

-- of a frame of `size` bytes in all
unfoldable pub header_bytes : ℕ → ℕ → Header → List ℕ
header_bytes size kind h = word_bytes 2 (size - length_size) ++ word_bytes 2 kind ++ word_bytes 4 h.ring.0 ++ word_bytes 2 h.representative
