use Prim.Native.Nat.{◌≤◌}
use Rattle.record.specs.Count.{numbers_after}
use Rattle.visit.specs.inner.Steps.{held_log}
use Rattle.visit.proofs.PutFrames.{Putting, run_from}
use Rattle.visit.proofs.held_log.HeldLog.put_run.Given as goal

abbrev pub invariant-loop-i : goal.invariant-loop-i
invariant-loop-i l =
    (l.i ≤ l.n) × Putting (held_log l.self) (numbers_after l.last.0 l.n) l.initial.out l.initial.at (run_from l.last.0 l.n l.i) l.out l.at
