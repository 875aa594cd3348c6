-- The places of held messages, as the code goes through them.
use Rattle.std.specs.Prelude.{ℕ, ◌+◌, ◌-◌, ◌%◌}
use Rattle.record.specs.Size.{most_held}

-- how many numbers above the safe mark come before the one that a place is for
abbrev pub before_in : ℕ → ℕ → ℕ
before_in safe place = (place + most_held - 1 - safe % most_held) % most_held
