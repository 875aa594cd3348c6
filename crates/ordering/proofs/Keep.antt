-- What holds of a ring holds after every list of calls; delivery lists are alike or one begins the other.
use Prim.Native.Nat.{ℕ, ◌≤◌}
use mathlib.Core.Path.{◌≡◌, refl, sym, subst}
use mathlib.Core.Logic.{inl, inr, ⊎_elim}
use mathlib.Core.List.{List, [], ◌∷◌, ◌++◌}
use mathlib.Core.Option.{Option, none, some}
use native.Mathlib.Omega.{arith}
use lib.ListN.{length, take}
use Rattle.ordering.specs.Lists.{Among, Distinct, OneBegins}
use Rattle.ordering.specs.inner.Frame.{Message, Token, message, token}
use Rattle.ordering.specs.inner.Station.{Station, heard, held_with}
use Rattle.ordering.specs.inner.Visit.{Choice}
use Rattle.ordering.specs.inner.History.{handed_at}
use Rattle.ordering.specs.inner.Run.{Ring, Call, quiet, hearing, visiting, resending, resend_writes, event, step, run, Possible, AllPossible, start, founding_token}
use Rattle.ordering.specs.inner.Demand.{OneOrder, Allows, after}
use Rattle.ordering.proofs.Base.{none-some, leb-cases, take_begins}
use Rattle.ordering.proofs.Store.{level-up}
use Rattle.ordering.proofs.Cable.{reading-cases, handed-nothing, message-token}
use Rattle.ordering.proofs.Readings.{longer-self}
use Rattle.ordering.proofs.Local.{local-idle}
use Rattle.ordering.proofs.Receive.{local-heard}
use Rattle.ordering.proofs.Inv.{Inv, Marks, inv-still, inv-start}
use Rattle.ordering.proofs.Turn.{Accepts, inv-turn}

-- ---- the token that is resent

no-message : (o : Option Token) (x : Message) → Among (message x) (resend_writes o) → ⊥
no-message none x h = h
no-message (some t) x h = ⊎_elim message-token (λ k. k) h

resent : (o : Option Token) (t : Token) → Among (token t) (resend_writes o) → o ≡ some t
resent none t h = absurd h
resent (some u) t h = ⊎_elim (λ e. let z : token t ≡ token u = e in cc) absurd h

-- ---- one call

pub same-marks : (s : Station) → Marks s s
same-marks s = record { own = refl; safe = refl; aru = refl; last = refl; level = omega arith }

pub heard-marks : (s : Station) (x : Message) → Marks s (heard s x)
unfolding heard
heard-marks s x = record { own = refl; safe = refl; aru = refl; last = refl; level = level-up (held_with s x) s.level }

pub accepts : {first : Token} {r : Ring} (size p : ℕ) (t : Token) (c : Choice) → Possible size first r (visiting p t c) → Accepts first r p t c
accepts size p t c k = record { cable = k.1; addressed = k.2; newer = k.3; allowed = k.4 }

pub inv-step : {members : List ℕ} {first : Token} {r : Ring} → Distinct members → (c : Call) → Possible (length members) first r c → Inv members first r → Inv members first (step r c)
unfolding step
inv-step {members} {first} {r} distinct (quiet p) k i =
    inv-still p (r.at p) (event (r.at p) (quiet p)) i
    (record { place = refl; forwards = refl; messages = λ x h. absurd h; tokens = λ t h. absurd h; marks = same-marks (r.at p) })
    (local-idle i.xs (event (r.at p) (quiet p)) (i.each p) (longer-self i.xs)
    (λ x h. ⊎_elim (λ q. absurd (none-some q.1.1)) (λ q. q) h)
    (λ n w h q. ⊎_elim (λ z. z) (λ z. absurd z.2.3) (reading-cases (event (r.at p) (quiet p)) r.history n w h))
    (handed-nothing p (event (r.at p) (quiet p)) r.history refl))
inv-step {members} {first} {r} distinct (hearing p x) k i =
    inv-still p (heard (r.at p) x) (event (r.at p) (hearing p x)) i
    (record { place = refl; forwards = refl; messages = λ y h. absurd h; tokens = λ t h. absurd h; marks = heard-marks (r.at p) x })
    (local-heard p x i.readings k.1 (i.each p))
inv-step {members} {first} {r} distinct (visiting p t c) k i = inv-turn distinct i p k.0 t c (accepts (length members) p t c k)
inv-step {members} {first} {r} distinct (resending p) k i =
    inv-still p (r.at p) (event (r.at p) (resending p)) i
    (record {
      place = refl;
      forwards = refl;
      messages = λ x h. absurd (no-message (r.at p).resendable x h);
      tokens = λ t h. (i.each p).resendable t (resent (r.at p).resendable t h);
      marks = same-marks (r.at p);
    })
    (local-idle i.xs (event (r.at p) (resending p)) (i.each p) (longer-self i.xs)
    (λ x h. ⊎_elim (λ q. absurd (none-some q.1.1)) (λ q. q) h)
    (λ n w h q. ⊎_elim (λ z. z) (λ z. absurd (no-message (r.at p).resendable z.2.0 z.2.3)) (reading-cases (event (r.at p) (resending p)) r.history n w h))
    (handed-nothing p (event (r.at p) (resending p)) r.history refl))

-- ---- a list of calls

pub inv-run : {members : List ℕ} {first : Token} → Distinct members → (cs : List Call) (r : Ring) → AllPossible (length members) first r cs → Inv members first r → Inv members first (run r cs)
unfolding run
inv-run distinct [] r k i = i
inv-run distinct (c ∷ cs) r k i = inv-run distinct cs (step r c) k.1 (inv-step distinct c k.0 i)

pub run-append : (cs ds : List Call) (r : Ring) → run r (cs ++ ds) ≡ run (run r cs) ds
unfolding run
run-append [] ds r = refl
run-append (c ∷ cs) ds r = run-append cs ds (step r c)

pub possible-append : (size : ℕ) (first : Token) (cs ds : List Call) (r : Ring) → AllPossible size first r (cs ++ ds) → AllPossible size first r cs × AllPossible size first (run r cs) ds
unfolding run
possible-append size first [] ds r k = (tt, k)
possible-append size first (c ∷ cs) ds r k = let q = possible-append size first cs ds (step r c) k.1 in ((k.0, q.0), q.1)

-- ---- every ring that calls lead to

module _ (members text : List ℕ) (distinct : Distinct members) (nonempty : 1 ≤ length members) where
  pub reachable : (calls : List Call) → Allows members text calls → Inv members (founding_token members text) (after members text calls)
  reachable calls k = inv-run distinct calls (start members) k (inv-start members text nonempty)

  pub one_order : OneOrder members text
  one_order calls k p q hp hq =
      let i = reachable calls k in
      subst (λ ys. OneBegins ys (handed_at q (after members text calls).history)) (sym (i.each p).handed)
      (subst (λ ys. OneBegins (take ((after members text calls).at p).delivered i.xs) ys) (sym (i.each q).handed)
      (⊎_elim
      (λ w. inl (take_begins ((after members text calls).at p).delivered ((after members text calls).at q).delivered i.xs w.1))
      (λ w. inr (take_begins ((after members text calls).at q).delivered ((after members text calls).at p).delivered i.xs (omega (arith, w.1))))
      (leb-cases ((after members text calls).at p).delivered ((after members text calls).at q).delivered)))
