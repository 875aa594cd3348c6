-- What holds of a ring, and what a call that forwards no token leaves of it.
use Prim.Native.Nat.{ℕ, ◌<◌, ◌≤◌}
use mathlib.Core.Path.{◌≡◌, refl, sym, ap, subst, ◌∙◌}
use mathlib.Core.Logic.{◌≢◌, ◌⊎◌, inl, inr, ⊎_elim}
use mathlib.Core.List.{List, [], ◌∷◌}
use mathlib.Core.Option.{Option, none}
use native.Mathlib.Omega.{arith}
use lib.ListN.{length, get_or}
use Rattle.ordering.specs.Lists.{Among}
use Rattle.ordering.specs.inner.Frame.{Message, Token, message, token}
use Rattle.ordering.specs.inner.Station.{Station}
use Rattle.ordering.specs.inner.History.{Event, OnCable, newest, written_in}
use Rattle.ordering.specs.inner.Run.{Ring, update, start, founding_token}
use Rattle.ordering.proofs.Base.{eqb-cases}
use Rattle.ordering.proofs.Aru.{Rules, rules-rise, rules-start}
use Rattle.ordering.proofs.Cable.{cable-stays, cable-cases, newest-same}
use Rattle.ordering.proofs.Readings.{Holds, Readings, readings-same, readings-start, longer-self}
use Rattle.ordering.proofs.Local.{Local, local-other, local-start}
use Rattle.ordering.proofs.Ids.{id_of}

-- ---- one place changes

pub update-cases : (p : ℕ) (s : Station) (f : ℕ → Station) (q : ℕ) → ((q ≡ p) × (update p s f q ≡ s)) ⊎ ((q ≢ p) × (update p s f q ≡ f q))
unfolding update
update-cases p s f q = ⊎_elim (λ w. inl (w.1, rw w.0)) (λ w. inr (w.1, rw w.0)) (eqb-cases q p)

pub update-ind : (P : ℕ → Station → Type 0) (p : ℕ) (s : Station) (f : ℕ → Station) → P p s → ((q : ℕ) → q ≢ p → P q (f q)) → (q : ℕ) → P q (update p s f q)
update-ind P p s f here other q =
    ⊎_elim
    (λ w. subst (λ u. P q u) (sym w.1) (subst (λ i. P i s) (sym w.0) here))
    (λ w. subst (λ u. P q u) (sym w.1) (other q w.0))
    (update-cases p s f q)

pub update_here : (p : ℕ) (s : Station) (f : ℕ → Station) → update p s f p ≡ s
update_here p s f = ⊎_elim (λ w. w.1) (λ w. absurd (w.0 refl)) (update-cases p s f p)

pub update_other : (p : ℕ) (s : Station) (f : ℕ → Station) (q : ℕ) → q ≢ p → update p s f q ≡ f q
update_other p s f q d = ⊎_elim (λ w. absurd (d w.0)) (λ w. w.1) (update-cases p s f q)

-- ---- the ring

pub record Inv (members : List ℕ) (first : Token) (r : Ring) : Type 0 where
  -- the readings, whose turn it is, and who blocks
  pub xs : List Message
  pub turn : ℕ
  pub blocker : Option ℕ
  pub readings : Readings first xs r.history
  pub each : (q : ℕ) → Local members first xs r.history q (r.at q)
  pub highest-is : (newest first r.history).highest ≡ length xs
  pub addressee-is : (newest first r.history).addressee ≡ get_or members turn 0
  pub blocker-is : (newest first r.history).blocker ≡ id_of members blocker
  pub rules : Rules (length members) turn (newest first r.history).highest (newest first r.history).aru blocker (λ q. (r.at q).aru) (λ q. (r.at q).level)
  pub safe : (p q : ℕ) → p < length members → q < length members → (r.at p).safe ≤ (r.at q).level
  -- tokens: the newest has the highest number, and no other is let in anywhere
  pub cable : OnCable first r.history (token (newest first r.history))
  pub older : (t : Token) → OnCable first r.history (token t) → t.number ≤ (newest first r.history).number
  pub only : (t : Token) (q : ℕ) → q < length members → OnCable first r.history (token t) → t.addressee ≡ (r.at q).own → (r.at q).last < t.number → t ≡ newest first r.history
  pub lasts : (q : ℕ) → q < length members → (r.at q).last ≤ (newest first r.history).number
  pub waiting : 2 ≤ length members → (r.at turn).last < (newest first r.history).number

-- ---- a call that forwards nothing: the station there has the same marks and at least the same level

pub record Marks (s s' : Station) : Type 0 where
  pub own : s'.own ≡ s.own
  pub safe : s'.safe ≡ s.safe
  pub aru : s'.aru ≡ s.aru
  pub last : s'.last ≡ s.last
  pub level : s.level ≤ s'.level

pub record Still (first : Token) (xs : List Message) (history : List Event) (p : ℕ) (s s' : Station) (e : Event) : Type 0 where
  pub place : e.place ≡ p
  pub forwards : e.forwarded ≡ none
  pub messages : (x : Message) → Among (message x) e.written → Holds xs x.number x
  pub tokens : (t : Token) → Among (token t) e.written → OnCable first history (token t)
  pub marks : Marks s s'

pub inv-still : {members : List ℕ} {first : Token} {r : Ring} (p : ℕ) (s' : Station) (e : Event) (i : Inv members first r)
    → Still first i.xs r.history p (r.at p) s' e
    → Local members first i.xs (e ∷ r.history) p s'
    → Inv members first (record { at = update p s' r.at; history = e ∷ r.history })
inv-still {members} {first} {r} p s' e i st l =
    record {
      xs = i.xs;
      turn = i.turn;
      blocker = i.blocker;
      readings = readings-same i.readings e st.messages;
      each = update-ind (λ q u. Local members first i.xs (e ∷ r.history) q u) p s' r.at l
          (λ q d. local-other i.xs e (i.each q) (longer-self i.xs) (λ k. d (sym (sym st.place ∙ k))));
      highest-is = ap (λ t. t.highest) new ∙ i.highest-is;
      addressee-is = ap (λ t. t.addressee) new ∙ i.addressee-is;
      blocker-is = ap (λ t. t.blocker) new ∙ i.blocker-is;
      rules = subst
          (λ t. Rules (length members) i.turn t.highest t.aru i.blocker (λ q. (update p s' r.at q).aru) (λ q. (update p s' r.at q).level))
          (sym new)
          (rules-rise (length members) i.turn (newest first r.history).highest (newest first r.history).aru i.blocker (λ q. (r.at q).aru) (λ q. (r.at q).level)
          (λ q. (update p s' r.at q).aru) (λ q. (update p s' r.at q).level) i.rules
          (λ q h. (marks q).aru)
          (λ q h. ((marks q).level, omega (arith, tops q, i.highest-is))));
      safe = λ q s h k. omega (arith, (marks q).safe, (marks s).level, i.safe q s h k);
      cable = subst (λ t. OnCable first (e ∷ r.history) (token t)) (sym new) (cable-stays first e r.history (token (newest first r.history)) i.cable);
      older = λ t h. omega (arith, i.older t (old t h), ap (λ u. u.number) new);
      only = λ t q h k a b. i.only t q h (old t k) (a ∙ (marks q).own) (omega (arith, (marks q).last)) ∙ sym new;
      lasts = λ q h. omega (arith, (marks q).last, i.lasts q h, ap (λ u. u.number) new);
      waiting = λ h. omega (arith, (marks i.turn).last, i.waiting h, ap (λ u. u.number) new);
    }
  where
    new : newest first (e ∷ r.history) ≡ newest first r.history
    new = newest-same first e r.history st.forwards

    old : (t : Token) → OnCable first (e ∷ r.history) (token t) → OnCable first r.history (token t)
    old t h = ⊎_elim (λ k. k) (st.tokens t) (cable-cases first e r.history (token t) h)

    tops : (q : ℕ) → (update p s' r.at q).level ≤ length i.xs
    tops = update-ind (λ q u. u.level ≤ length i.xs) p s' r.at l.level-top (λ q d. (i.each q).level-top)

    marks : (q : ℕ) → Marks (r.at q) (update p s' r.at q)
    marks =
        update-ind (λ q u. Marks (r.at q) u) p s' r.at st.marks
        (λ q d. record { own = refl; safe = refl; aru = refl; last = refl; level = omega arith })

-- ---- at the start

pub inv-start : (members text : List ℕ) → 1 ≤ length members → Inv members (founding_token members text) (start members)
unfolding newest written_in
inv-start members text h =
    record {
      xs = [];
      turn = 0;
      blocker = none;
      readings = readings-start (founding_token members text);
      each = local-start members (founding_token members text);
      highest-is = refl;
      addressee-is = refl;
      blocker-is = refl;
      rules = rules-start (length members) h;
      safe = λ p q a b. omega arith;
      cable = inl refl;
      older = λ t k. ⊎_elim (λ e. let q : t ≡ founding_token members text = (let z : token t ≡ token (founding_token members text) = e in cc) in omega (arith, ap (λ u. u.number) q)) (λ a. absurd a.1) k;
      only = λ t q a k e b. ⊎_elim (λ z. let y : token t ≡ token (founding_token members text) = z in cc) (λ z. absurd z.1) k;
      lasts = λ q a. omega arith;
      waiting = λ a. omega arith;
    }
