-- After founding question 2 never refuses.
use Prim.Native.Nat.{ℕ}
use mathlib.Core.Path.{refl, ◌∙◌, ap}
use mathlib.Core.List.{List, []}
use lib.ListN.{length}
use Rattle.record.specs.Whole.{whole}
use Rattle.ring.specs.Run.{records, first_frame, start, run}
use Rattle.ring.specs.AlwaysWhole.{RecordsWhole, AlwaysWhole}
use Rattle.ring.proofs.runs.Start.{RingFacts, ring-facts}
use Rattle.ring.proofs.runs.Split.{possible-after}
use Rattle.ring.proofs.runs.Demand.{FromFounded}
use Rattle.ring.proofs.runs.Wholes.{founded-whole, run-whole}

pub always-whole-from : (members : List ℕ) (ring : ℕ) → RingFacts members ring → FromFounded members ring (RecordsWhole members ring)
unfolding run
always-whole-from members ring f founded are calls can =
    run-whole (length members) (first_frame members ring) (start founded) calls (possible-after members ring founded [] calls can)
    (λ p h. ap whole (are p h) ∙ founded-whole members ring f.counted f.follow f.ranged p h)

pub always-whole : AlwaysWhole
always-whole members ring foundable = always-whole-from members ring (ring-facts members ring foundable) (records members ring) (λ p h. refl)
