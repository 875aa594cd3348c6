use Prim.Native.Nat.{ℕ}
use mathlib.Core.Path.{◌≡◌}
use mathlib.Core.List.{List}
use mathlib.Core.Bool.{not}
use lib.ListN.{take}
use Rattle.record.specs.inner.Head.{log_on}
use Rattle.record.specs.Held.{holds}
use Rattle.record.specs.Count.{those}
use Rattle.visit.proofs.requests.Split.take.Given as goal

abbrev pub invariant-loop-n : goal.invariant-loop-n
invariant-loop-n l =
    (contents : List ℕ)
    → (l.self.held ≡ those (holds (log_on l.l contents)) (take l.n-index l.requests))
    × (l.self.rest ≡ those (λ n. not (holds (log_on l.l contents) n)) (take l.n-index l.requests))
