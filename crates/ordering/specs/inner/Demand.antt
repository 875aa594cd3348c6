-- Demand 3 for stations as ordering sees them: one statement about every list of calls. [document 01, The words of demand 3]
use Rattle.std.specs.Prelude.{ℕ, ◌<◌, ◌≤◌, ◌≡◌, true, List, [], ◌∷◌, ◌++◌, length}
use Rattle.std.proofs.Math.Option.{some}
use Rattle.ordering.specs.Lists.{Among, OneBegins}
use Rattle.ordering.specs.inner.Frame.{Message, message}
use Rattle.ordering.specs.inner.History.{Written, reading, Received, handed_at}
use Rattle.ordering.specs.inner.Run.{Call, Ring, station_of, event, run, start, founding_token, AllPossible, AcceptedIn}

module _ (members text : List ℕ) where
  abbrev pub Allows : List Call → Type 0
  Allows calls = AllPossible (length members) (founding_token members text) (start members) calls

  abbrev pub after : List Call → Ring
  after calls = run (start members) calls

  -- delivery lists are alike or one begins the other
  abbrev pub OneOrder : Type 0
  OneOrder = (calls : List Call) → Allows calls → (p q : ℕ) → p < length members → q < length members
      → OneBegins (handed_at p (after calls).history) (handed_at q (after calls).history)

  -- what a call hands out is a reading; one that is safe had been received everywhere before
  abbrev pub SafeFirst : Type 0
  SafeFirst = (before : List Call) (c : Call) → Allows (before ++ (c ∷ []))
      → (x : Message) → Among x (event ((after before).at (station_of c)) c).handed → x.safe ≡ true
      → (p : ℕ) → p < length members → Received p x.number (after before).history

  -- a round is over: everybody has accepted a token in these calls
  abbrev pub Round : Ring → List Call → Type 0
  Round r calls = (p : ℕ) → p < length members → AcceptedIn p r calls

  -- what everybody has received, everybody has delivered three rounds later
  abbrev pub Delivered : Type 0
  Delivered = (before one two three : List Call) → Allows (before ++ (one ++ (two ++ three)))
      → (m : ℕ) → ((p n : ℕ) → p < length members → 1 ≤ n → n ≤ m → Received p n (after before).history)
      → Round (after before) one
      → Round (after (before ++ one)) two
      → Round (after (before ++ (one ++ two))) three
      → (p n : ℕ) → p < length members → 1 ≤ n → n ≤ m
      → (x : Message) × (w : Written) × (reading (after before).history n ≡ some w) × (w.frame ≡ message x)
      × Among x (handed_at p (after (before ++ (one ++ (two ++ three)))).history)

  pub record Demand₃ : Type 0 where
    pub one_order : OneOrder
    pub safe_first : SafeFirst
    pub delivered : Delivered
