-- Text as bytes, and what putting a text into a buffer leaves.
use Rattle.std.specs.Prelude.{ℕ, zero, suc, ◌+◌, ◌/◌, ◌%◌, ◌≤◌, min, ◌≡◌, Bool, not, ◌&&◌, cond, List, [], ◌∷◌, ◌++◌, length, flat_map, ltb, leb, eqb}
use Prim.Native.Char.{code}
use Prim.Native.String.{String, [] as none, ◌∷◌ as ◌then◌}
use Rattle.std.proofs.lemmas.List.Edits.{sets}

-- ---- text

-- the codes of a string's characters
abbrev pub ascii : String → List ℕ
ascii none = []
ascii (c then s) = code c ∷ ascii s

-- a text is bytes in pieces: a piece is put whole or left out
abbrev pub Text : Type 0
Text = List (List ℕ)

-- of one piece
abbrev pub piece : List ℕ → Text
piece bytes = bytes ∷ []

-- the digits of n, of which there are no more than `most`
unfoldable pub digits_to : ℕ → ℕ → List ℕ
digits_to zero n = []
digits_to (suc most) n = cond (ltb n 10) ((48 + n) ∷ []) (digits_to most (n / 10) ++ ((48 + n % 10) ∷ []))

-- a number of 32 bits
abbrev pub decimal : ℕ → Text
decimal n = piece (digits_to 10 n)

-- `0` to `9`, then `a` to `f`
abbrev pub hexadecimal : ℕ → ℕ
hexadecimal d = cond (ltb d 10) (48 + d) (87 + d)

-- printable, and neither the quote nor the backslash
abbrev pub is_plain : ℕ → Bool
is_plain b = leb 32 b && leb b 126 && not (eqb b 34) && not (eqb b 92)

abbrev pub escaped_byte : ℕ → Text
escaped_byte b = piece (cond (is_plain b) (b ∷ []) (92 ∷ 120 ∷ hexadecimal (b / 16) ∷ hexadecimal (b % 16) ∷ []))

-- a text for each, one after another
abbrev pub each : (ℕ → Text) → List ℕ → Text
each f xs = flat_map f xs

abbrev pub escaped : List ℕ → Text
escaped bytes = each escaped_byte bytes

-- ---- putting it

-- how long a buffer is
abbrev pub room : ℕ
room = 65536

-- a buffer, and the position in it where the next piece goes
pub record Filled : Type 0 where
  pub at : ℕ
  pub out : List ℕ

abbrev pub filled : ℕ → List ℕ → Filled
filled at out = record { at = at; out = out }

-- a piece at the position; one that there is no room for is left out, and a position past the end is the end
unfoldable pub put_piece : List ℕ → Filled → Filled
put_piece bytes f =
    cond (leb (f.at + length bytes) (length f.out))
    (filled (f.at + length bytes) (sets f.out f.at bytes))
    (filled (min f.at (length f.out)) f.out)

-- piece by piece
unfoldable pub put : Text → Filled → Filled
put [] f = f
put (bytes ∷ text) f = put text (put_piece bytes f)

-- the bytes are put whole
pub record Whole (before : Filled) (bytes : List ℕ) (after : Filled) : Type 0 where
  pub within : after.at ≤ length before.out
  pub ends : after.at ≡ before.at + length bytes
  pub stored : after.out ≡ sets before.out before.at bytes
