use Prim.Native.Nat.{ℕ}
use mathlib.Core.List.{List}
use Rattle.record.specs.inner.Head.{log_on}
use Rattle.visit.proofs.DueCount.{Counted}
use Rattle.visit.proofs.held_log.HeldLog.due_count.Given as goal

abbrev pub invariant-loop-last : goal.invariant-loop-last
invariant-loop-last l = (contents : List ℕ) → Counted (log_on l.self.log.now contents) l.safe.0 l.last
