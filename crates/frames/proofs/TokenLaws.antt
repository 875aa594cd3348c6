-- The requests of a token frame, read into sixteen zeros.
use Prim.Native.Nat.{ℕ, zero, suc, ◌-◌}
use mathlib.Core.Path.{◌≡◌, ◌∙◌}
use mathlib.Core.List.{List, ◌++◌}
use native.Mathlib.Nat.{sub-zero, zero-sub, suc-sub-suc}
use lib.ListN.{drop, replicate}
use Rattle.words.specs.Run.{words}
use Rattle.frames.specs.Layout.{most_requests, requests_at}
use Rattle.frames.specs.Token.{requests_of}

pub drop-replicate : {A : Type 0} (m n : ℕ) (a : A) → drop n (replicate m a) ≡ replicate (m - n) a
drop-replicate m zero a = rw sub-zero
drop-replicate zero (suc n) a = rw zero-sub
drop-replicate (suc m) (suc n) a = rw suc-sub-suc (drop-replicate m n a)

-- the words read into sixteen zeros
pub requests_padded : (n : ℕ) (s requests : List ℕ) → requests ≡ words 4 n (drop requests_at s) ++ drop n (replicate most_requests 0) → requests ≡ requests_of n s
unfolding requests_of
requests_padded n s requests e = e ∙ rw (drop-replicate most_requests n)
