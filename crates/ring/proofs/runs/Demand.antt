-- Demand 3 is met.
use Prim.Native.Nat.{ℕ, ◌<◌}
use native.Mathlib.Omega.{arith}
use mathlib.Core.Path.{◌≡◌, refl}
use mathlib.Core.Bool.{true}
use mathlib.Core.List.{List, []}
use lib.ListN.{length}
use Rattle.record.specs.Members.{members_counted, ids_follow, ring_in_range}
use Rattle.record.specs.declared.Record.{Record}
use Rattle.ordering.specs.inner.Demand as ordered
use Rattle.ordering.proofs.Theorem.{demand₃ as demand-ordered}
use Rattle.ring.specs.Calls.{Call}
use Rattle.ring.specs.Run.{records, first_frame, Account, account_of, structs}
use Rattle.ring.specs.Demand.{CanAfter, WholeRun, Demand₃}
use Rattle.ring.proofs.seen.CallLaw.{sight}
use Rattle.ring.proofs.runs.Start.{RingFacts, ring-facts, ids-distinct, some-member}
use Rattle.ring.proofs.runs.Theorem.{whole-run-from}

-- a property of calls, from any records by place that are founding's at the members' places
abbrev pub FromFounded : List ℕ → ℕ → (Account → List Call → Type 0) → Type 0
FromFounded members ring P = (founded : ℕ → Record)
    → ((p : ℕ) → p < length members → founded p ≡ records members ring p)
    → (calls : List Call)
    → CanAfter members ring (account_of structs founded) [] calls
    → P (account_of structs founded) calls

-- ordering's theorem, of the ring's members and its first token
pub in_order : (members : List ℕ) (ring : ℕ) → members_counted members ≡ true → ids_follow members ≡ true → ring_in_range ring ≡ true → ordered.Demand₃ members (first_frame members ring)
in_order members ring counted follow ranged =
    demand-ordered members (first_frame members ring) (ids-distinct members follow) (omega (arith, some-member members ring counted follow ranged))

pub demand₃-from : (members : List ℕ) (ring : ℕ) → RingFacts members ring → FromFounded members ring (WholeRun members ring)
demand₃-from members ring f =
    whole-run-from sight members ring f.counted f.follow f.ranged (in_order members ring f.counted f.follow f.ranged)

pub demand₃ : Demand₃
demand₃ members ring foundable = demand₃-from members ring (ring-facts members ring foundable) (records members ring) (λ p h. refl)
