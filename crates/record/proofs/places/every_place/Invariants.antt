use Prim.Native.Nat.{ℕ}
use mathlib.Core.Path.{◌≡◌}
use mathlib.Core.Bool.{Bool, not}
use lib.ListN.{get_or}
use lib.Dec.{eqb}
use Rattle.record.specs.Size.{most_held}
use Rattle.record.specs.inner.Places.{before_in}
use Rattle.record.proofs.CountLaws.{Gathered}
use Rattle.record.proofs.places.every_place.Given as goal

abbrev pub invariant-loop-place : goal.invariant-loop-place
invariant-loop-place g l =
    (test : ℕ → Bool → Bool)
    → ((before : ℕ) (used : Bool) (r : Bool) → goal.F-post g l.passes before used r → r ≡ test before used)
    → Gathered (λ place. test (before_in l.safe.0 place) (not (eqb (get_or l.senders place 0) 0))) 0 most_held l.good l.place
