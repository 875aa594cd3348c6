-- A message that is handed out as safe had been received everywhere before.
use Prim.Native.Nat.{ℕ, ◌-◌, ◌<◌, ◌≤◌}
use mathlib.Core.Path.{◌≡◌, sym, subst}
use mathlib.Core.Bool.{true}
use mathlib.Core.List.{List, [], ◌∷◌}
use native.Mathlib.Omega.{arith}
use lib.ListN.{length}
use Rattle.ordering.specs.Lists.{Among, Distinct}
use Rattle.ordering.specs.inner.Frame.{Message, Token}
use Rattle.ordering.specs.inner.Station.{held_with, level_with, handed_with}
use Rattle.ordering.specs.inner.Visit.{held_after, level_after, safe_after, handed_after}
use Rattle.ordering.specs.inner.History.{Received}
use Rattle.ordering.specs.inner.Run.{Ring, Call, quiet, hearing, visiting, resending, station_of, event, Possible, start, founding_token}
use Rattle.ordering.specs.inner.Demand.{SafeFirst}
use Rattle.ordering.proofs.Store.{due-held}
use Rattle.ordering.proofs.Visited.{after-number}
use Rattle.ordering.proofs.Inv.{Inv}
use Rattle.ordering.proofs.Turn.{Accepts, high_is, safe-after-below}
use Rattle.ordering.proofs.Keep.{accepts, possible-append, reachable}

safe-call : {members : List ℕ} {first : Token} {r : Ring} → Distinct members → Inv members first r → (c : Call) → Possible (length members) first r c
    → (x : Message) → Among x (event (r.at (station_of c)) c).handed → x.safe ≡ true → (q : ℕ) → q < length members → Received q x.number r.history
unfolding handed_with handed_after
safe-call distinct i (quiet p) k x m s q h = absurd m
safe-call distinct i (resending p) k x m s q h = absurd m
safe-call {members} {first} {r} distinct i (hearing p y) k x m s q h =
    let d = due-held (held_with (r.at p) y) (r.at p).safe x (level_with (r.at p) y - (r.at p).delivered) (r.at p).delivered m in
    absurd (omega (arith, d.1, d.3 s, (i.each p).safe-delivered))
safe-call {members} {first} {r} distinct i (visiting p t c) k x m s q h =
    let a : Accepts first r p t c = accepts (length members) p t c k in
    let d = due-held (held_after (r.at p) t c) (safe_after (r.at p) t c) x (level_after (r.at p) t c - (r.at p).delivered) (r.at p).delivered m in
    let number : x.number ≡ d.0 = after-number p t c i.readings (high_is distinct i p k.0 t c a) a.allowed (i.each p) d.0 x d.2 in
    subst (λ n. Received q n r.history) (sym number)
    ((i.each q).had d.0 (omega (arith, d.1)) (omega (arith, d.3 s, safe-after-below distinct i p k.0 t c a q h)))

module _ (members text : List ℕ) (distinct : Distinct members) (nonempty : 1 ≤ length members) where
  pub safe_first : SafeFirst members text
  safe_first before c k x m s q h =
      let split = possible-append (length members) (founding_token members text) before (c ∷ []) (start members) k in
      safe-call distinct (reachable members text distinct nonempty before split.0) c split.1.0 x m s q h
