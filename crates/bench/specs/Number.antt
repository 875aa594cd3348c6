-- Numbers in a script. [document 01, Trials: the bench]
use Rattle.std.specs.Prelude.{ℕ, ◌+◌, ◌-◌, ◌*◌, min, Bool, cond, ◌&&◌, nat_le, Option, Some, None}

-- `0` to `9`
abbrev pub is_digit : ℕ → Bool
is_digit b = nat_le 48 b && nat_le b 57

-- the largest of 32 bits
abbrev pub most_value : ℕ
most_value = 4294967295

-- a digit more behind a number; past the largest it stays the largest
abbrev pub more_decimal : ℕ → ℕ → ℕ
more_decimal value digit = min (10 * value + digit) most_value

-- `0` to `9`, `a` to `f`, `A` to `F`
unfoldable pub hex_value : ℕ → Option ℕ
hex_value b =
    cond (is_digit b) (Some (b - 48))
    (cond (nat_le 97 b && nat_le b 102) (Some (b - 97 + 10))
    (cond (nat_le 65 b && nat_le b 70) (Some (b - 65 + 10))
    None))
