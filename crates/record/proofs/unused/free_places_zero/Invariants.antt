use mathlib.Core.Bool.{not, ◌||◌, ◌&&◌}
use lib.ListN.{length, get_or}
use lib.Dec.{eqb}
use Rattle.record.specs.Size.{most_held}
use Rattle.record.proofs.CountLaws.{Gathered}
use Rattle.record.proofs.unused.free_places_zero.Given as goal

abbrev pub invariant-loop-sender : goal.invariant-loop-sender
invariant-loop-sender l =
    Gathered (λ place. not (eqb (get_or l.fn.l.senders place 0) 0) || (eqb (get_or l.fn.l.services place 0) 0 && eqb (get_or l.fn.l.lengths place 0) 0)) 0 most_held l.good (length l.yielded)
