-- Runs of numbers: a test of each, and those that pass one.
use Rattle.std.specs.Prelude.{ℕ, zero, suc, Bool, true, ◌&&◌, cond, List, [], ◌∷◌}

-- the test holds of n numbers, from `first` on
unfoldable pub every_from : (ℕ → Bool) → ℕ → ℕ → Bool
every_from test first zero = true
every_from test first (suc n) = test first && every_from test (suc first) n

-- the n numbers after `last`
unfoldable pub numbers_after : ℕ → ℕ → List ℕ
numbers_after last zero = []
numbers_after last (suc n) = suc last ∷ numbers_after (suc last) n

-- those that pass, in their order
unfoldable pub those : (ℕ → Bool) → List ℕ → List ℕ
those test [] = []
those test (n ∷ ns) = cond (test n) (n ∷ those test ns) (those test ns)
