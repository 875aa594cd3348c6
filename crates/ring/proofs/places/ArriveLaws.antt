-- What arrival over bytes always keeps to.
use Prim.Native.Nat.{ℕ}
use mathlib.Core.Path.{◌≡◌}
use mathlib.Core.List.{List}
use lib.ListN.{length}
use Rattle.record.specs.Lent.{lent}
use Rattle.station.specs.Answer.{outcome_of}
use Rattle.station.proofs.ArrivedGood.{arrived-good}
use Rattle.station.specs.Over.{arrive_over}

-- the count of deliveries is that of their bytes
pub counted : (s frame : List ℕ) (frames deliveries : ℕ) → (outcome_of (arrive_over s frame frames deliveries).answer).deliveries ≡ length (arrive_over s frame frames deliveries).deliveries
unfolding arrive_over
counted s frame frames deliveries = (arrived-good (lent s) frame frames deliveries).1.1
