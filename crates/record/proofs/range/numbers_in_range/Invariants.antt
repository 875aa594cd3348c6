use Prim.Native.Nat.{◌+◌}
use mathlib.Core.Bool.{not, ◌||◌}
use lib.ListN.{get_or}
use lib.Dec.{leb, eqb}
use Rattle.frames.specs.Number.{most_number}
use Rattle.record.specs.Size.{most_held}
use Rattle.record.specs.Held.{place_of}
use Rattle.record.proofs.CountLaws.{Running}
use Rattle.record.proofs.range.numbers_in_range.Given as goal

abbrev pub invariant-loop-n : goal.invariant-loop-n
invariant-loop-n l = Running (λ n. leb n most_number || not (not (eqb (get_or l.senders (place_of n) 0) 0))) l.safe (l.safe + most_held) l.n
