-- A list of numbers in a token's 16 places.
use Rattle.std.specs.Prelude.{ℕ, ◌-◌, List, ◌++◌, length, replicate}
use Rattle.frames.specs.Layout.{most_requests}

-- zero past them
abbrev pub padded : List ℕ → List ℕ
padded xs = xs ++ replicate (most_requests - length xs) 0
