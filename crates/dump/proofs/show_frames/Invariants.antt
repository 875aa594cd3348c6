use Prim.Native.Nat.{◌-◌, ◌≤◌}
use lib.ListN.{length}
use Rattle.dump.proofs.show_frames.Given as goal

abbrev pub invariant-loop-size : goal.invariant-loop-size
invariant-loop-size g l = l.from ≤ length l.input

abbrev pub decreases-loop-size : goal.decreases-loop-size
decreases-loop-size g l = length l.input - l.from
