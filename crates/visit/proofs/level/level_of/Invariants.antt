use Prim.Native.Nat.{◌+◌}
use mathlib.Core.Bool.{not, ◌&&◌}
use lib.ListN.{get_or}
use lib.Dec.{ltb, leb, eqb}
use Rattle.record.specs.Size.{most_held}
use Rattle.record.specs.Held.{place_of}
use Rattle.visit.proofs.HearLaws.{Rising}
use Rattle.visit.proofs.level.level_of.Given as goal

abbrev pub invariant-loop-reached : goal.invariant-loop-reached
invariant-loop-reached l = Rising (λ n. ltb l.safe.0 n && leb n (l.safe.0 + most_held) && not (eqb (get_or l.senders (place_of n) 0) 0)) l.fn.level.0 l.reached
