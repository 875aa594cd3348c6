use Prim.Native.Nat.{ℕ, ◌*◌, ◌≤◌}
use mathlib.Core.Path.{◌≡◌}
use mathlib.Core.List.{List}
use lib.ListN.{length}
use Rattle.frames.specs.Layout.{shortest_token}
use Rattle.record.specs.Layout.{record_size}
use Rattle.ring.specs.Stations.{founded_up_to}
use Rattle.ring.proofs.founding.found_others.Given as goal

abbrev pub invariant-loop-place : goal.invariant-loop-place
invariant-loop-place l = (length l.token ≡ shortest_token) × ((before : List ℕ) → 1 ≤ l.n → record_size * l.n ≤ length before
    → l.initial.records ≡ founded_up_to l.list l.ring.0 before 1
    → l.records ≡ founded_up_to l.list l.ring.0 before l.place)
