-- Demand 3: one statement about the whole list of calls. [document 01, The words of demand 3]
use Rattle.std.specs.Prelude.{ℕ, ◌<◌, ◌≤◌, ◌≡◌, true, List, [], ◌∷◌, ◌++◌, ◌⊎◌, length}
use Rattle.std.proofs.Math.Option.{some}
use Rattle.ordering.specs.Lists.{Among, OneBegins}
use Rattle.ring.specs.Calls.{Call, post, arrival, resending, station_of}
use Rattle.ring.specs.History.{Event, Written, OnCable, reading, is_safe, Received, delivery_list, handed_by, DeliveredAt, is_accepted}
use Rattle.ring.specs.Run.{ring_foundable, first_frame, ring_of, Account, event_after, over_structs}

-- an arrival is handed a copy of a frame that is on the cable
abbrev pub Handed : List (List ℕ) → List Event → Call → Type 0
Handed firsts history (post place service content) = Unit {0}
Handed firsts history (arrival place frame frames deliveries) = OnCable firsts history frame
Handed firsts history (resending place frames) = Unit {0}

module _ (members : List ℕ) (ring : ℕ) (a : Account) where
  -- the calls can be made after those before: each at one of the stations
  abbrev pub CanAfter : List Call → List Call → Type 0
  CanAfter before [] = Unit {0}
  CanAfter before (c ∷ cs) =
      (station_of c < length members)
      × Handed (first_frame members ring ∷ []) (a.history before) c
      × CanAfter (before ++ (c ∷ [])) cs

  abbrev pub IsReceived : List Call → ℕ → ℕ → Type 0
  IsReceived calls p n = Received (ring_of members ring) (a.history calls) p n

  abbrev pub IsReading : List Call → ℕ → Written → Type 0
  IsReading calls n w = reading (ring_of members ring) (a.history calls) n ≡ some w

  -- ---- delivery lists are alike or one begins the other

  abbrev pub OneOrder : List Call → Type 0
  OneOrder calls = (p q : ℕ) → p < length members → q < length members
      → OneBegins (delivery_list p (a.history calls)) (delivery_list q (a.history calls))

  -- ---- a safe reading delivered anywhere had been received everywhere before the call that delivered it

  abbrev pub SafeFirst : List Call → Type 0
  SafeFirst calls = (before later : List Call) (c : Call)
      → calls ≡ before ++ (c ∷ later)
      → (n : ℕ) (w : Written)
      → IsReading calls n w
      → is_safe w.frame ≡ true
      → Among w.frame (handed_by (event_after a before c))
      → (p : ℕ) → p < length members → IsReceived before p n

  -- ---- what everybody has received, everybody has delivered three rounds later

  -- a token is accepted at a place in these calls
  abbrev pub AcceptedIn : ℕ → List Call → List Call → Type 0
  AcceptedIn p before [] = ⊥
  AcceptedIn p before (c ∷ cs) =
      ((station_of c ≡ p) × (is_accepted (event_after a before c) ≡ true))
      ⊎ AcceptedIn p (before ++ (c ∷ [])) cs

  -- a round is over when each station has accepted one more; the next begins there
  abbrev pub Round : List Call → List Call → Type 0
  Round before calls = (p : ℕ) → p < length members → AcceptedIn p before calls

  -- reading n and all before it: stations deliver in order. Rounds are counted from the place where they have been received: the first of
  -- the three begins there
  abbrev pub Delivered : List Call → Type 0
  Delivered calls = (before one two three : List Call)
      → calls ≡ before ++ (one ++ (two ++ three))
      → (n : ℕ) → 1 ≤ n → ((p k : ℕ) → p < length members → 1 ≤ k → k ≤ n → IsReceived before p k)
      → Round before one
      → Round (before ++ one) two
      → Round (before ++ (one ++ two)) three
      → (p : ℕ) (w : Written) → p < length members → IsReading calls n w → DeliveredAt p (a.history calls) w.frame

  pub record WholeRun (calls : List Call) : Type 0 where
    pub one_order : OneOrder calls
    pub safe_first : SafeFirst calls
    pub delivered : Delivered calls

-- it holds for 2 to 8 stations founded on one list and ring number, and every list of calls
abbrev pub EveryRun : (List ℕ → ℕ → Account → List Call → Type 0) → Type 0
EveryRun P = (members : List ℕ) (ring : ℕ)
    → ring_foundable members ring ≡ true
    → (calls : List Call)
    → CanAfter members ring (over_structs members ring) [] calls
    → P members ring (over_structs members ring) calls

abbrev pub Demand₃ : Type 0
Demand₃ = EveryRun WholeRun
