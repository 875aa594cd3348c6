use Prim.Native.Nat.{ℕ}
use mathlib.Core.Bool.{not, ◌&&◌}
use mathlib.Core.List.{List}
use Rattle.words.specs.Scan.{lacks}
use Rattle.record.specs.inner.Head.{log_on}
use Rattle.record.specs.Held.{holds}
use Rattle.visit.proofs.ListedLaws.{Adding}
use Rattle.visit.proofs.requests.add_missing.Given as goal

abbrev pub invariant-loop-last : goal.invariant-loop-last
invariant-loop-last l =
    (contents : List ℕ)
    → Adding (λ n. not (holds (log_on l.l contents) n) && lacks l.asked n) l.asked l.initial.last l.fn.top.0 l.all l.last
