-- The frames within an answer's output bytes: one after another, each as long as its own length field says.
-- [document 01, The words of demand 3: a frame within an answer's output counts]
use Rattle.std.specs.Prelude.{ℕ, zero, suc, cond, List, [], ◌∷◌, length, take, drop, eqb}
use Rattle.frames.specs.Header.{own_size}

-- `most` frames at most
unfoldable pub frames_up_to : ℕ → List ℕ → List (List ℕ)
frames_up_to zero s = []
frames_up_to (suc most) s = cond (eqb (length s) 0) [] (take (own_size s) s ∷ frames_up_to most (drop (own_size s) s))

-- a frame has at least 2 bytes, so no more than there are bytes
unfoldable pub frames_in : List ℕ → List (List ℕ)
frames_in s = frames_up_to (length s) s
