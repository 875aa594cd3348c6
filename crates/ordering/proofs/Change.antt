-- What a call changes of the marks: nothing but a level that rises, or a visit.
use Prim.Native.Nat.{ℕ, ◌≤◌, min, max}
use mathlib.Core.Path.{◌≡◌, refl, sym, subst}
use mathlib.Core.Logic.{◌≢◌, ◌⊎◌, inl, inr}
use mathlib.Core.List.{List, ◌∷◌}
use mathlib.Core.Option.{none, some}
use native.Mathlib.Omega.{arith}
use lib.ListN.{length}
use Rattle.ordering.specs.Lists.{Distinct}
use Rattle.ordering.specs.inner.Frame.{Token}
use Rattle.ordering.specs.inner.Station.{Station, heard}
use Rattle.ordering.specs.inner.Visit.{Choice, held_after, level_after, aru_after, blocker_after, token_after, visited}
use Rattle.ordering.specs.inner.History.{newest}
use Rattle.ordering.specs.inner.Run.{Ring, Call, quiet, hearing, visiting, resending, station_of, event, step, update, Possible}
use Rattle.ordering.proofs.Base.{some_same}
use Rattle.ordering.proofs.Store.{level-up}
use Rattle.ordering.proofs.Cable.{newest-same, newest-new}
use Rattle.ordering.proofs.Visited.{Lowers, leaves, says, lowers-cases, safe-after-is}
use Rattle.ordering.proofs.Inv.{Inv, Marks, update-ind, update_here, update_other}
use Rattle.ordering.proofs.Turn.{is-newest}
use Rattle.ordering.proofs.Keep.{same-marks, heard-marks, accepts}

-- what a visit leaves
pub record Visit (t t' : Token) (s s' : Station) : Type 0 where
  pub aru : (t'.aru ≡ t.aru) ⊎ (s.level ≤ t'.aru)
  -- the blocker stays, or the visited place's level is said
  pub blocker : (t'.blocker ≡ t.blocker) ⊎ (s.level ≤ t'.aru)
  -- its own blocker does
  pub mine : t.blocker ≡ some s.own → s.level ≤ t'.aru
  pub aru-is : s'.aru ≡ t'.aru
  pub safe-is : s'.safe ≡ max s.safe (min s.aru t'.aru)
  pub level : s.level ≤ s'.level

pub visit-is : (s : Station) (t : Token) (c : Choice) → Visit t (token_after s t c) s (visited s t c)
unfolding token_after visited
visit-is s t c =
    record {
      aru = aru (lowers-cases s t c);
      blocker = blocker (lowers-cases s t c);
      mine = mine (lowers-cases s t c);
      aru-is = refl;
      safe-is = safe-after-is s t c;
      level = up;
    }
  where
    up : s.level ≤ level_after s t c
    up = level-up (held_after s t c) s.level

    aru : Lowers s t c → (aru_after s t c ≡ t.aru) ⊎ (s.level ≤ aru_after s t c)
    aru (leaves id e d k a b) = inl a
    aru (says why a b) = inr (omega (arith, a, up))

    blocker : Lowers s t c → (blocker_after s t c ≡ t.blocker) ⊎ (s.level ≤ aru_after s t c)
    blocker (leaves id e d k a b) = inl b
    blocker (says why a b) = inr (omega (arith, a, up))

    mine : Lowers s t c → t.blocker ≡ some s.own → s.level ≤ aru_after s t c
    mine (leaves id e d k a b) q = absurd (d (some_same e q))
    mine (says why a b) q = omega (arith, a, up)

-- the call's event, and the newest token before and after
pub data Change (first : Token) (r r' : Ring) (c : Call) : Type 0 where
  rests : (event (r.at (station_of c)) c).forwarded ≡ none → newest first r'.history ≡ newest first r.history → ((q : ℕ) → Marks (r.at q) (r'.at q)) → Change first r r' c
  turns : (p : ℕ) → station_of c ≡ p → Visit (newest first r.history) (newest first r'.history) (r.at p) (r'.at p) → ((q : ℕ) → q ≢ p → r'.at q ≡ r.at q) → Change first r r' c

marks-update : (p : ℕ) (s' : Station) (at : ℕ → Station) → Marks (at p) s' → (q : ℕ) → Marks (at q) (update p s' at q)
marks-update p s' at m = update-ind (λ q u. Marks (at q) u) p s' at m (λ q d. same-marks (at q))

pub change-is : {members : List ℕ} {first : Token} {r : Ring} → Distinct members → Inv members first r → (c : Call) → Possible (length members) first r c → Change first r (step r c) c
unfolding step
change-is {members} {first} {r} distinct i (quiet p) k =
    rests refl (newest-same first (event (r.at p) (quiet p)) r.history refl) (marks-update p (r.at p) r.at (same-marks (r.at p)))
change-is {members} {first} {r} distinct i (hearing p x) k =
    rests refl (newest-same first (event (r.at p) (hearing p x)) r.history refl) (marks-update p (heard (r.at p) x) r.at (heard-marks (r.at p) x))
change-is {members} {first} {r} distinct i (resending p) k =
    rests refl (newest-same first (event (r.at p) (resending p)) r.history refl) (marks-update p (r.at p) r.at (same-marks (r.at p)))
change-is {members} {first} {r} distinct i (visiting p t c) k =
    turns p refl
    (subst (λ u. Visit u (newest first (event (r.at p) (visiting p t c) ∷ r.history)) (r.at p) (update p (visited (r.at p) t c) r.at p))
    (sym (is-newest distinct i p k.0 t c (accepts (length members) p t c k)))
    (subst (λ u. Visit t u (r.at p) (update p (visited (r.at p) t c) r.at p)) (sym (newest-new first (event (r.at p) (visiting p t c)) r.history (token_after (r.at p) t c) refl))
    (subst (λ u. Visit t (token_after (r.at p) t c) (r.at p) u) (sym (update_here p (visited (r.at p) t c) r.at)) (visit-is (r.at p) t c))))
    (λ q d. update_other p (visited (r.at p) t c) r.at q d)
