-- What may be called, and what is accepted, by the ring that the calls before left.
use Prim.Native.Nat.{ℕ, ◌<◌}
use mathlib.Core.Path.{◌≡◌}
use mathlib.Core.Bool.{true}
use mathlib.Core.List.{List, [], ◌∷◌}
use mathlib.Core.Logic.{◌⊎◌}
use Rattle.record.specs.declared.Record.{Record}
use Rattle.ring.specs.Calls.{Call, station_of, reply_to}
use Rattle.ring.specs.History.{is_accepted}
use Rattle.ring.specs.Run.{Ring, step, structs}
use Rattle.ring.specs.Demand.{Handed}

abbrev pub Possible : ℕ → List ℕ → Ring Record → List Call → Type 0
Possible size first s [] = Unit {0}
Possible size first s (c ∷ cs) = (station_of c < size) × Handed (first ∷ []) s.history c × Possible size first (step structs s c) cs

abbrev pub AcceptedIn : ℕ → Ring Record → List Call → Type 0
AcceptedIn p s [] = ⊥
AcceptedIn p s (c ∷ cs) =
    ((station_of c ≡ p) × (is_accepted (record { call = c; reply = reply_to (s.at (station_of c)) c }) ≡ true))
    ⊎ AcceptedIn p (step structs s c) cs
