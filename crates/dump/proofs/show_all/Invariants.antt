use Prim.Native.Nat.{◌<◌}
use mathlib.Core.Path.{◌≡◌}
use lib.ListN.{length}
use Rattle.frames.specs.Layout.{most_framed}
use Rattle.dump.proofs.show_all.Given as goal

abbrev pub invariant-loop : goal.invariant-loop
invariant-loop g l = (l.held < most_framed) × (length l.buffer ≡ length l.initial.buffer)
