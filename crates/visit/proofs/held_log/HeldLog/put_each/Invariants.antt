use Prim.Native.Nat.{◌≤◌}
use lib.ListN.{length, drop}
use Rattle.visit.specs.inner.Steps.{held_log}
use Rattle.visit.proofs.PutFrames.{Putting}
use Rattle.visit.proofs.held_log.HeldLog.put_each.Given as goal

abbrev pub invariant-loop-n : goal.invariant-loop-n
invariant-loop-n l =
    (l.n-index ≤ length l.numbers) × Putting (held_log l.self) l.numbers l.initial.out l.initial.at (drop l.n-index l.numbers) l.out l.at
