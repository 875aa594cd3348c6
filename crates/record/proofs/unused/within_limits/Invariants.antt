use lib.ListN.{length, get_or}
use lib.Dec.{leb}
use Rattle.record.proofs.CountLaws.{Gathered}
use Rattle.record.proofs.unused.within_limits.Given as goal

abbrev pub invariant-loop-x : goal.invariant-loop-x
invariant-loop-x l = Gathered (λ k. leb (get_or l.s k 0) (get_or l.limits k 0)) 0 16 l.good (length l.yielded)
