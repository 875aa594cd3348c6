-- Little-endian words in lists of bytes, at any width. Nothing here knows what a word means.
use Rattle.std.specs.Prelude.{ℕ, zero, suc, ◌+◌, ◌*◌, ◌/◌, ◌%◌, ◌<◌, List, [], ◌∷◌, get_or, take, drop}

-- every element is a byte
abbrev pub Bytes : List ℕ → Type 0
Bytes s = (i : ℕ) → get_or s i 0 < 256

-- x as a word of w bytes, the lowest first
unfoldable pub word_bytes : ℕ → ℕ → List ℕ
word_bytes zero x = []
word_bytes (suc w) x = x % 256 ∷ word_bytes w (x / 256)

-- the number that a list of bytes is, the lowest first
unfoldable pub word_of : List ℕ → ℕ
word_of [] = 0
word_of (b ∷ bs) = b + 256 * word_of bs

-- the word of w bytes that stands in s from `at` on
unfoldable pub word_at : ℕ → List ℕ → ℕ → ℕ
word_at w s at = word_of (take w (drop at s))
