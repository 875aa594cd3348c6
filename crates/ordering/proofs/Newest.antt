-- The token last forwarded, in every ring that calls lead to: where it is due, and what it bounds.
use Prim.Native.Nat.{ℕ, ◌<◌, ◌≤◌}
use mathlib.Core.Path.{◌≡◌, sym, ◌∙◌}
use mathlib.Core.List.{List}
use mathlib.Core.Option.{some}
use native.Mathlib.Omega.{arith}
use lib.ListN.{length, get_or}
use Rattle.ordering.specs.Lists.{Distinct}
use Rattle.ordering.specs.inner.Frame.{Message, Token, message, token}
use Rattle.ordering.specs.inner.History.{OnCable, newest}
use Rattle.ordering.specs.inner.Run.{Ring, Call, founding_token}
use Rattle.ordering.specs.inner.Demand.{Allows, after}
use Rattle.ordering.proofs.Readings.{holds-top, one-message}
use Rattle.ordering.proofs.Inv.{Inv}
use Rattle.ordering.proofs.Keep.{reachable}

pub record Newest (members : List ℕ) (first : Token) (r : Ring) : Type 0 where
  pub cable : OnCable first r.history (token (newest first r.history))
  -- the place that it is addressed to
  pub place : ℕ
  pub place_in : place < length members
  pub addressee-is : (newest first r.history).addressee ≡ get_or members place 0
  pub addressee-own : (r.at place).own ≡ (newest first r.history).addressee
  -- a ring of one addresses its own station, that then has forwarded it
  pub waiting : 2 ≤ length members → (r.at place).last < (newest first r.history).number
  -- every station
  pub members-are : (q : ℕ) → q < length members → (r.at q).members ≡ members
  pub own_is : (q : ℕ) → q < length members → (r.at q).own ≡ get_or members q 0
  pub level-most : (q : ℕ) → q < length members → (r.at q).level ≤ (newest first r.history).highest
  pub held-most : (q : ℕ) → q < length members → (n : ℕ) (x : Message) → (r.at q).held n ≡ some x → n ≤ (newest first r.history).highest
  pub last-most : (q : ℕ) → q < length members → (r.at q).last ≤ (newest first r.history).number
  -- every frame on the cable
  pub one-message : (x y : Message) → OnCable first r.history (message x) → OnCable first r.history (message y) → x.number ≡ y.number → x ≡ y
  pub older : (t : Token) → OnCable first r.history (token t) → t.number ≤ (newest first r.history).number
  pub only : (t : Token) (q : ℕ) → q < length members → OnCable first r.history (token t) → t.addressee ≡ (r.at q).own → (r.at q).last < t.number → t ≡ newest first r.history

newest-of : {members : List ℕ} {first : Token} {r : Ring} → Inv members first r → Newest members first r
newest-of {members} {first} {r} i =
    record {
      cable = i.cable;
      place = i.turn;
      place_in = i.rules.here;
      addressee-is = i.addressee-is;
      addressee-own = (i.each i.turn).own_is ∙ sym i.addressee-is;
      waiting = i.waiting;
      members-are = λ q h. (i.each q).members-are;
      own_is = λ q h. (i.each q).own_is;
      level-most = i.rules.top;
      held-most = λ q h n x e. omega (arith, holds-top i.xs n x ((i.each q).reads n x e), i.highest-is);
      last-most = i.lasts;
      one-message = one-message i.readings;
      older = i.older;
      only = i.only;
    }

pub newest-is : (members text : List ℕ) → Distinct members → 1 ≤ length members → (calls : List Call) → Allows members text calls
    → Newest members (founding_token members text) (after members text calls)
newest-is members text distinct h calls k = newest-of (reachable members text distinct h calls k)
