-- What a station hands out is readings 1, 2, 3 and so on, in every ring that calls lead to.
use Prim.Native.Nat.{ℕ, zero, suc, ◌+◌, ◌<◌, ◌≤◌}
use mathlib.Core.Path.{◌≡◌, refl, sym, subst}
use mathlib.Core.List.{List, [], ◌∷◌}
use mathlib.Core.Option.{some}
use native.Mathlib.Omega.{arith}
use lib.ListN.{length, get_elem?, take}
use Rattle.ordering.specs.Lists.{Distinct}
use Rattle.ordering.specs.inner.Frame.{Message, message}
use Rattle.ordering.specs.inner.History.{Event, Written, written_at, reading, handed_at}
use Rattle.ordering.specs.inner.Run.{Call}
use Rattle.ordering.specs.inner.Demand.{Allows, after}
use Rattle.ordering.proofs.Readings.{holds-reading}
use Rattle.ordering.proofs.Keep.{reachable}

-- these messages are the readings from n on
abbrev pub ListedFrom : List Event → ℕ → List Message → Type 0
ListedFrom history n [] = Unit {0}
ListedFrom history n (x ∷ xs) = ((w : Written) × (reading history n ≡ some w) × (w.frame ≡ message x)) × ListedFrom history (suc n) xs

-- the message at k is reading n + k
abbrev ReadsFrom : List Event → ℕ → List Message → Type 0
ReadsFrom history n xs = (i k : ℕ) (x : Message) → i ≡ n + k → get_elem? xs k ≡ some x → (place : ℕ) × (reading history i ≡ some (written_at place (message x)))

listed-take : (history : List Event) (n m : ℕ) (xs : List Message) → ReadsFrom history n xs → ListedFrom history n (take m xs)
listed-take history n zero xs reads = tt
listed-take history n (suc m) [] reads = tt
listed-take history n (suc m) (x ∷ xs) reads =
    let here = reads n zero x (omega arith) refl in (
      (written_at here.0 (message x), here.1, refl),
      listed-take history (suc n) m xs (λ i k y is e. reads i (suc k) y (omega (arith, is)) e),
    )

pub listed : (members text : List ℕ) → Distinct members → 1 ≤ length members → (calls : List Call) → Allows members text calls
    → (p : ℕ) → p < length members → ListedFrom (after members text calls).history 1 (handed_at p (after members text calls).history)
listed members text distinct h calls k p p< =
    let r = after members text calls in
    let i = reachable members text distinct h calls k in
    subst (ListedFrom r.history 1) (sym (i.each p).handed)
    (listed-take r.history 1 (r.at p).delivered i.xs
    (λ n j x is e. let number : n ≡ suc j = omega (arith, is) in holds-reading i.readings n x (j, number, e)))
