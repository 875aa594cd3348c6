-- What a station delivers is readings 1, 2, 3 and so on: none is left out, none comes twice, and nothing else is delivered. Demand 3 does
-- not ask for it in so many words; its first clause follows from it.
use Rattle.std.specs.Prelude.{ℕ, suc, ◌<◌, ◌≡◌, List, [], ◌∷◌, length}
use Rattle.ring.specs.Calls.{Call}
use Rattle.ring.specs.History.{Written, deliveries}
use Rattle.ring.specs.Run.{Account}
use Rattle.ring.specs.Demand.{IsReading, EveryRun}

module _ (members : List ℕ) (ring : ℕ) (a : Account) where
  -- these frames are the readings from n on
  abbrev pub ReadingsFrom : List Call → ℕ → List (List ℕ) → Type 0
  ReadingsFrom calls n [] = Unit {0}
  ReadingsFrom calls n (f ∷ fs) =
      ((w : Written) × IsReading members ring a calls n w × (w.frame ≡ f))
      × ReadingsFrom calls (suc n) fs

  abbrev pub ListedInOrder : List Call → Type 0
  ListedInOrder calls = (p : ℕ) → p < length members → ReadingsFrom calls 1 (deliveries p (a.history calls))

abbrev pub Listed : Type 0
Listed = EveryRun ListedInOrder
