use Prim.Native.Nat.{suc, ◌+◌, ◌-◌}
use mathlib.Core.Path.{◌≡◌}
use lib.ListN.{length}
use Rattle.record.specs.Size.{held_contents}
use Rattle.record.specs.Held.{cleared_from}
use Rattle.record.specs.inner.Head.{held_on}
use Rattle.record.proofs.HeldSteps.{SameRing}
use Rattle.record.proofs.held.let_go.Given as goal

-- what is left to clear decides the whole
abbrev pub invariant-loop-n : goal.invariant-loop-n
invariant-loop-n l =
    (length l.contents ≡ held_contents)
    × SameRing l.initial.log l.log
    × (cleared_from (held_on l.log l.contents) l.n (l.safe.0 + 1 - l.n) ≡ cleared_from (held_on l.initial.log l.initial.contents) (suc l.initial.log.safe.0) (l.safe.0 - l.initial.log.safe.0))
