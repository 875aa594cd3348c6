-- After founding question 2 never refuses: every station's record is whole after every list of calls. [document 01, The station record;
-- Questions at the door: 2]
use Rattle.std.specs.Prelude.{ℕ, ◌<◌, ◌≡◌, true, List, length}
use Rattle.ring.specs.Calls.{Call}
use Rattle.ring.specs.Run.{Account}
use Rattle.ring.specs.Demand.{EveryRun}

abbrev pub RecordsWhole : List ℕ → ℕ → Account → List Call → Type 0
RecordsWhole members ring a calls = (p : ℕ) → p < length members → a.is_whole calls p ≡ true

abbrev pub AlwaysWhole : Type 0
AlwaysWhole = EveryRun RecordsWhole
