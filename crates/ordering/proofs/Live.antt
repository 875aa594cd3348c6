-- What stays from call to call, and what a visit at a place brings about, once every level is at least m.
use Prim.Native.Nat.{ℕ, suc, ◌<◌, ◌≤◌}
use mathlib.Core.Path.{◌≡◌, sym, ap, subst, ◌∙◌}
use mathlib.Core.Logic.{◌⊎◌, inl, inr, ⊎_elim}
use mathlib.Core.List.{List, [], ◌∷◌}
use mathlib.Core.Option.{some}
use native.Mathlib.Decide.{ℕ_discrete}
use native.Mathlib.Omega.{arith}
use lib.ListN.{length, get_or}
use Rattle.ordering.specs.Lists.{Distinct}
use Rattle.ordering.specs.inner.Frame.{Token}
use Rattle.ordering.specs.inner.History.{Written, newest, reading, KeptAt, Received}
use Rattle.ordering.specs.inner.Run.{Ring, Call, quiet, hearing, visiting, resending, station_of, event, step, run, Possible, AllPossible, AcceptedIn}
use Rattle.ordering.proofs.Base.{none-some, leb-cases}
use Rattle.ordering.proofs.Cable.{reading-found, reading-stays}
use Rattle.ordering.proofs.Local.{Had}
use Rattle.ordering.proofs.Inv.{Inv}
use Rattle.ordering.proofs.Keep.{inv-step}
use Rattle.ordering.proofs.Change.{Change, rests, turns, change-is}

-- ---- received, so had

received-had : {members : List ℕ} {first : Token} {r : Ring} (i : Inv members first r) (p n : ℕ) → Received p n r.history → Had (r.at p) n
received-had {r = r} i p n k =
    let f = reading-found r.history n k.first k.is in
    ⊎_elim
    (λ q. subst (λ m. Had (r.at p) m) f.number ((i.each p).kept f.content (subst (λ g. KeptAt p g r.history) f.frame q)))
    (λ q. (i.each p).wrote n k.first k.is q)
    k.how

pub level-reached : {members : List ℕ} {first : Token} {r : Ring} (i : Inv members first r) (p m : ℕ) → ((n : ℕ) → 1 ≤ n → n ≤ m → Received p n r.history) → m ≤ (r.at p).level
level-reached {r = r} i p m k =
    ⊎_elim
    (λ w. w.1)
    (λ w.
    ⊎_elim
    (λ h. absurd (omega arith))
    (λ h. absurd (none-some (sym (i.each p).gap ∙ h.1)))
    (received-had i p (suc (r.at p).level) (k (suc (r.at p).level) (omega arith) (omega (arith, w.1)))))
    (leb-cases m (r.at p).level)

-- ---- a reading stays

pub reading-run : (cs : List Call) (r : Ring) (n : ℕ) (w : Written) → reading r.history n ≡ some w → reading (run r cs).history n ≡ some w
unfolding run step
reading-run [] r n w h = h
reading-run (c ∷ cs) r n w h = reading-run cs (step r c) n w (reading-stays (event (r.at (station_of c)) c) r.history n w h)

possible-place : (size : ℕ) (first : Token) (r : Ring) (c : Call) → Possible size first r c → station_of c < size
possible-place size first r (quiet p) k = k
possible-place size first r (hearing p x) k = k.0
possible-place size first r (visiting p t c) k = k.0
possible-place size first r (resending p) k = k

-- ---- what stays, and what a visit at a place brings about

module _ (members : List ℕ) (first : Token) where
  abbrev pub Kept : (Ring → Type 0) → Type 0
  Kept P = (r : Ring) (c : Call) → Inv members first r → Possible (length members) first r c → P r → P (step r c)

  abbrev pub Brings : (Ring → Type 0) → (Ring → Type 0) → ℕ → Type 0
  Brings P Q p =
      (r : Ring) (c : Call) (t : Token) → Inv members first r → Possible (length members) first r c
      → station_of c ≡ p → (event (r.at (station_of c)) c).forwarded ≡ some t → P r → Q (step r c)

module _ {members : List ℕ} {first : Token} (distinct : Distinct members) where
  pub kept_run : (P : Ring → Type 0) → Kept members first P → (cs : List Call) (r : Ring) → AllPossible (length members) first r cs → Inv members first r → P r → P (run r cs)
  unfolding run
  kept_run P keep [] r k i h = h
  kept_run P keep (c ∷ cs) r k i h = kept_run P keep cs (step r c) k.1 (inv-step distinct c k.0 i) (keep r c i k.0 h)

  pub until : (P Q : Ring → Type 0) (p : ℕ) → Kept members first P → Kept members first Q → Brings members first P Q p
      → (cs : List Call) (r : Ring) → AllPossible (length members) first r cs → Inv members first r → AcceptedIn p r cs → P r → Q (run r cs)
  unfolding run
  until P Q p keep_p keep_q bring [] r k i a h = absurd a
  until P Q p keep_p keep_q bring (c ∷ cs) r k i (inl a) h =
      kept_run Q keep_q cs (step r c) k.1 (inv-step distinct c k.0 i) (bring r c a.1.0 i k.0 a.0 a.1.1 h)
  until P Q p keep_p keep_q bring (c ∷ cs) r k i (inr a) h =
      until P Q p keep_p keep_q bring cs (step r c) k.1 (inv-step distinct c k.0 i) a (keep_p r c i k.0 h)

-- ---- the stages

-- every level is at least m
abbrev pub High : List ℕ → ℕ → Ring → Type 0
High members m r = (q : ℕ) → q < length members → m ≤ (r.at q).level

module _ (members : List ℕ) (first : Token) (m : ℕ) where
  -- so is the newest aru, or v blocks
  abbrev pub Blocked : ℕ → Ring → Type 0
  Blocked v r = High members m r × ((m ≤ (newest first r.history).aru) ⊎ ((newest first r.history).blocker ≡ some (get_or members v 0)))

  abbrev pub Said : Ring → Type 0
  Said r = High members m r × (m ≤ (newest first r.history).aru)

  -- and the aru that p forwarded last
  abbrev pub Known : ℕ → Ring → Type 0
  Known p r = High members m r × (m ≤ (newest first r.history).aru) × (m ≤ (r.at p).aru)

abbrev pub Safe : ℕ → ℕ → Ring → Type 0
Safe m p r = m ≤ (r.at p).safe

module _ {members : List ℕ} {first : Token} (distinct : Distinct members) (m : ℕ) where
  high-kept : Kept members first (High members m)
  high-kept r c i k h q hq = go (change-is distinct i c k)
    where
      go : Change first r (step r c) c → m ≤ ((step r c).at q).level
      go (rests f n marks) = omega (arith, h q hq, (marks q).level)
      go (turns p e v other) =
          elim (ℕ_discrete q p) [
            | yes z ↦ subst (λ j. m ≤ ((step r c).at j).level) (sym z) (let b : m ≤ (r.at p).level = subst (λ j. m ≤ (r.at j).level) z (h q hq) in omega (arith, v.level))
            | no d ↦ omega (arith, h q hq, ap (λ s. s.level) (other q d))
          ]

  -- the level where the call is
  high-here : (r : Ring) (c : Call) (p : ℕ) → Inv members first r → Possible (length members) first r c → station_of c ≡ p → High members m r → m ≤ (r.at p).level
  high-here r c p i k e h = h p (omega (arith, possible-place (length members) first r c k))

  pub blocked-kept : (v : ℕ) → Kept members first (Blocked members first m v)
  blocked-kept v r c i k h = (high-kept r c i k h.0, go (change-is distinct i c k) h.1)
    where
      go : Change first r (step r c) c → (m ≤ (newest first r.history).aru) ⊎ ((newest first r.history).blocker ≡ some (get_or members v 0))
          → (m ≤ (newest first (step r c).history).aru) ⊎ ((newest first (step r c).history).blocker ≡ some (get_or members v 0))
      go (rests f n marks) (inl x) = inl (omega (arith, ap (λ t. t.aru) n))
      go (rests f n marks) (inr x) = inr (ap (λ t. t.blocker) n ∙ x)
      go (turns p e w other) (inl x) = inl (⊎_elim (λ z. omega arith) (λ z. omega (arith, high-here r c p i k e h.0)) w.aru)
      go (turns p e w other) (inr x) = ⊎_elim (λ z. inr (z ∙ x)) (λ z. inl (omega (arith, high-here r c p i k e h.0))) w.blocker

  pub said-kept : Kept members first (Said members first m)
  said-kept r c i k h = (high-kept r c i k h.0, go (change-is distinct i c k))
    where
      go : Change first r (step r c) c → m ≤ (newest first (step r c).history).aru
      go (rests f n marks) = omega (arith, ap (λ t. t.aru) n, h.1)
      go (turns p e w other) = ⊎_elim (λ z. omega (arith, h.1)) (λ z. omega (arith, high-here r c p i k e h.0)) w.aru

  -- the blocker is visited: it says its level
  pub said-brings : (v : ℕ) → v < length members → Brings members first (Blocked members first m v) (Said members first m) v
  said-brings v hv r c t i k e f h = (high-kept r c i k h.0, go (change-is distinct i c k) h.1)
    where
      go : Change first r (step r c) c → (m ≤ (newest first r.history).aru) ⊎ ((newest first r.history).blocker ≡ some (get_or members v 0)) → m ≤ (newest first (step r c).history).aru
      go (rests g n marks) x = absurd (none-some (sym g ∙ f))
      go (turns p q w other) (inl x) = ⊎_elim (λ z. omega arith) (λ z. omega (arith, high-here r c p i k q h.0)) w.aru
      go (turns p q w other) (inr x) =
          let same : get_or members v 0 ≡ (r.at p).own = ap (λ j. get_or members j 0) (sym e ∙ q) ∙ sym (i.each p).own_is in
          omega (arith, high-here r c p i k q h.0, w.mine (x ∙ ap some same))

  pub known_kept : (p : ℕ) → Kept members first (Known members first m p)
  known_kept p r c i k h =
      let s = said-kept r c i k (h.0, h.1) in
      (s.0, s.1, go s.1 (change-is distinct i c k))
    where
      go : m ≤ (newest first (step r c).history).aru → Change first r (step r c) c → m ≤ ((step r c).at p).aru
      go a (rests f n marks) = omega (arith, (marks p).aru, h.2)
      go a (turns q e w other) =
          elim (ℕ_discrete p q) [
            | yes z ↦ subst (λ j. m ≤ ((step r c).at j).aru) (sym z) (omega (arith, w.aru-is))
            | no d ↦ omega (arith, h.2, ap (λ s. s.aru) (other p d))
          ]

  pub known-brings : (p : ℕ) → Brings members first (Said members first m) (Known members first m p) p
  known-brings p r c t i k e f h =
      let s = said-kept r c i k h in
      (s.0, s.1, go s.1 (change-is distinct i c k))
    where
      go : m ≤ (newest first (step r c).history).aru → Change first r (step r c) c → m ≤ ((step r c).at p).aru
      go a (rests g n marks) = absurd (none-some (sym g ∙ f))
      go a (turns q z w other) = subst (λ j. m ≤ ((step r c).at j).aru) (sym z ∙ e) (omega (arith, w.aru-is))

  pub safe-kept : (p : ℕ) → Kept members first (Safe m p)
  safe-kept p r c i k h = go (change-is distinct i c k)
    where
      go : Change first r (step r c) c → m ≤ ((step r c).at p).safe
      go (rests f n marks) = omega (arith, (marks p).safe)
      go (turns q e w other) =
          elim (ℕ_discrete p q) [
            | yes z ↦ subst (λ j. m ≤ ((step r c).at j).safe) (sym z) (let b : m ≤ (r.at q).safe = subst (λ j. m ≤ (r.at j).safe) z h in omega (arith, w.safe-is))
            | no d ↦ omega (arith, ap (λ s. s.safe) (other p d))
          ]

  pub safe-brings : (p : ℕ) → Brings members first (Known members first m p) (Safe m p) p
  safe-brings p r c t i k e f h = go (said-kept r c i k (h.0, h.1)).1 (change-is distinct i c k)
    where
      go : m ≤ (newest first (step r c).history).aru → Change first r (step r c) c → m ≤ ((step r c).at p).safe
      go a (rests g n marks) = absurd (none-some (sym g ∙ f))
      go a (turns q z w other) =
          let b : m ≤ (r.at q).aru = subst (λ j. m ≤ (r.at j).aru) (sym e ∙ z) h.2 in
          subst (λ j. m ≤ ((step r c).at j).safe) (sym z ∙ e) (omega (arith, w.safe-is))
