-- What holds of a ring still holds when a token is accepted.
use Prim.Native.Nat.{ℕ, suc, ◌<◌, ◌≤◌}
use mathlib.Core.Path.{◌≡◌, refl, sym, ap, subst, ◌∙◌}
use mathlib.Core.Logic.{◌≢◌, ◌⊎◌, inl, inr, ⊎_elim}
use mathlib.Core.List.{List, [], ◌∷◌, ◌++◌, map}
use mathlib.Core.Option.{Option, none, some}
use native.Mathlib.Omega.{arith}
use lib.ListN.{length, get_or, length-append}
use Rattle.ordering.specs.Lists.{Among, Distinct}
use Rattle.ordering.specs.inner.Frame.{Token, message, token}
use Rattle.ordering.specs.inner.Station.{Station}
use Rattle.ordering.specs.inner.Visit.{Choice, Allowed, NumberedFrom, next, held_after, highest_after, level_after, aru_after, blocker_after, safe_after, token_after, visited}
use Rattle.ordering.specs.inner.History.{Event, OnCable, newest}
use Rattle.ordering.specs.inner.Run.{Ring, visiting, event, update}
use Rattle.ordering.proofs.Base.{among-append, among-right}
use Rattle.ordering.proofs.Store.{level-up}
use Rattle.ordering.proofs.Aru.{Rules, Lowered, stays, blocks, frees, Says, turn_after, turn-cases, turn_in, rules-visit, safe-below}
use Rattle.ordering.proofs.Cable.{cable-new, cable-cases, token-among, newest-new}
use Rattle.ordering.proofs.Readings.{readings-more}
use Rattle.ordering.proofs.Local.{Local, local-other}
use Rattle.ordering.proofs.Visited.{Lowers, leaves, says, lowers-cases, safe-after-is, event-writes, repeats-old, climb, local-visited}
use Rattle.ordering.proofs.Ids.{id_of, id-some, next_place}
use Rattle.ordering.proofs.Inv.{Inv, update-ind, update_here, update_other}

-- a token that may be accepted at p
pub record Accepts (first : Token) (r : Ring) (p : ℕ) (t : Token) (c : Choice) : Type 0 where
  pub cable : OnCable first r.history (token t)
  pub addressed : t.addressee ≡ (r.at p).own
  pub newer : (r.at p).last < t.number
  pub allowed : Allowed (r.at p) t c

module _ {members : List ℕ} {first : Token} {r : Ring} (distinct : Distinct members) (i : Inv members first r)
    (p : ℕ) (h : p < length members) (t : Token) (c : Choice) (a : Accepts first r p t c) where
  -- it is the newest, and it is this place's turn
  pub is-newest : newest first r.history ≡ t
  is-newest = sym (i.only t p h a.cable a.addressed a.newer)

  pub is-turn : i.turn ≡ p
  is-turn =
      distinct i.turn p i.rules.here h
      (sym i.addressee-is ∙ ap (λ u. u.addressee) is-newest ∙ a.addressed ∙ (i.each p).own_is)

  pub high_is : t.highest ≡ length i.xs
  high_is = ap (λ u. u.highest) (sym is-newest) ∙ i.highest-is

  pub rules-here : Rules (length members) p t.highest t.aru i.blocker (λ q. (r.at q).aru) (λ q. (r.at q).level)
  rules-here =
      subst (λ k. Rules (length members) k t.highest t.aru i.blocker (λ q. (r.at q).aru) (λ q. (r.at q).level)) is-turn
      (subst (λ u. Rules (length members) i.turn u.highest u.aru i.blocker (λ q. (r.at q).aru) (λ q. (r.at q).level)) is-newest i.rules)

  blocker-here : t.blocker ≡ id_of members i.blocker
  blocker-here = ap (λ u. u.blocker) (sym is-newest) ∙ i.blocker-is

  pub high_after : highest_after (r.at p) t c ≡ length (i.xs ++ c.added)
  high_after = omega (arith, high_is, length-append i.xs c.added)

  pub level-most : level_after (r.at p) t c ≤ highest_after (r.at p) t c
  level-most = omega (arith, high_after, (climb p t c i.readings high_is a.allowed (i.each p)).top)

  -- what the visit does to aru and blocker, by places
  pub record Outcome : Type 0 where
    pub place : Option ℕ
    pub is : blocker_after (r.at p) t c ≡ id_of members place
    pub how : Lowered p (level_after (r.at p) t c) (highest_after (r.at p) t c) t.aru i.blocker (aru_after (r.at p) t c) place

  says-place : (level_after (r.at p) t c < t.aru) ⊎ ((id : ℕ) → t.blocker ≡ some id → id ≡ (r.at p).own) → Says p (level_after (r.at p) t c) t.aru i.blocker
  says-place (inl k) = inl k
  says-place (inr f) =
      inr (λ v e. distinct v p (i.rules.placed v e) h (f (get_or members v 0) (blocker-here ∙ ap (id_of members) e) ∙ (i.each p).own_is))

  pub outcome : Outcome
  outcome = go (lowers-cases (r.at p) t c)
    where
      go : Lowers (r.at p) t c → Outcome
      go (leaves id e d k aru b) =
          let v = id-some members i.blocker id (sym blocker-here ∙ e) in
          record {
            place = i.blocker;
            is = b ∙ blocker-here;
            how = stays v.0 v.1 (λ q. d (v.2 ∙ ap (λ j. get_or members j 0) q ∙ sym (i.each p).own_is)) k aru v.1;
          }
      go (says why aru (inl w)) = record { place = none; is = w.1; how = frees (says-place why) w.0 aru refl }
      go (says why aru (inr w)) =
          let d : level_after (r.at p) t c ≢ highest_after (r.at p) t c = w.0 in
          record {
            place = some p;
            is = w.1 ∙ ap some (i.each p).own_is;
            how = blocks (says-place why) (omega (arith, level-most)) aru refl;
          }

  -- the safe mark afterwards is below every level
  pub safe-after-below : (q : ℕ) → q < length members → safe_after (r.at p) t c ≤ (r.at q).level
  safe-after-below q k =
      omega (
        arith,
        safe-after-is (r.at p) t c,
        i.safe p q h k,
        safe-below (length members) p t.highest t.aru i.blocker (λ q. (r.at q).aru) (λ q. (r.at q).level) rules-here
            (level_after (r.at p) t c) (highest_after (r.at p) t c) (aru_after (r.at p) t c) outcome.place outcome.how (omega arith) q k,
      )

  -- ---- the ring afterwards

  abbrev e : Event
  e = event (r.at p) (visiting p t c)

  abbrev stations : ℕ → Station
  stations = update p (visited (r.at p) t c) r.at

  new : newest first (e ∷ r.history) ≡ token_after (r.at p) t c
  new = newest-new first e r.history (token_after (r.at p) t c) refl

  new-token : (u : Token) → Among (token u) e.written → u ≡ token_after (r.at p) t c
  new-token u k =
      ⊎_elim
      (λ b. absurd (⊎_elim (token-among c.repeats u) (token-among c.added u) (among-append (map message c.repeats) (map message c.added) (token u) b)))
      (λ b. ⊎_elim (λ q. let z : token u ≡ token (token_after (r.at p) t c) = q in cc) absurd b)
      (among-append (map message c.repeats ++ map message c.added) (token (token_after (r.at p) t c) ∷ []) (token u)
      (subst (λ fs. Among (token u) fs) (event-writes p t c i.readings high_is a.allowed (i.each p)) k))

  number-after : (newest first (e ∷ r.history)).number ≡ suc t.number
  unfolding token_after
  number-after = ap (λ v. v.number) new

  older-here : (u : Token) → OnCable first r.history (token u) → u.number ≤ t.number
  older-here u k = omega (arith, i.older u k, ap (λ v. v.number) is-newest)

  levels-rise : (q : ℕ) → (r.at q).level ≤ (stations q).level
  unfolding visited
  levels-rise =
      update-ind (λ q u. (r.at q).level ≤ u.level) p (visited (r.at p) t c) r.at
      (level-up (held_after (r.at p) t c) (r.at p).level)
      (λ q d. omega arith)

  safes : (q : ℕ) → q < length members → (s : ℕ) → s < length members → (stations q).safe ≤ (r.at s).level
  unfolding visited
  safes =
      update-ind (λ q u. q < length members → (s : ℕ) → s < length members → u.safe ≤ (r.at s).level) p (visited (r.at p) t c) r.at
      (λ k s m. safe-after-below s m)
      (λ q d k s m. i.safe q s k m)

  -- no other token is let in
  only-after : (u : Token) → OnCable first (e ∷ r.history) (token u) → (q : ℕ) → q < length members
      → u.addressee ≡ (stations q).own
      → (stations q).last < u.number
      → u ≡ token_after (r.at p) t c
  unfolding visited
  only-after u k =
      update-ind (λ q s. q < length members → u.addressee ≡ s.own → s.last < u.number → u ≡ token_after (r.at p) t c) p (visited (r.at p) t c) r.at
      (λ m own last. ⊎_elim (λ b. absurd (omega (arith, older-here u b))) (new-token u) (cable-cases first e r.history (token u) k))
      (λ q d m own last.
      ⊎_elim
      (λ b.
      let same : u ≡ t = i.only u q m b own last ∙ is-newest in
      absurd (d (distinct q p m h (sym (i.each q).own_is ∙ sym own ∙ ap (λ v. v.addressee) same ∙ a.addressed ∙ (i.each p).own_is))))
      (new-token u)
      (cable-cases first e r.history (token u) k))

  lasts_after : (q : ℕ) → q < length members → ((stations q).last ≤ suc t.number) × (q ≢ p → (stations q).last ≤ t.number)
  unfolding visited
  lasts_after =
      update-ind (λ q s. q < length members → (s.last ≤ suc t.number) × (q ≢ p → s.last ≤ t.number)) p (visited (r.at p) t c) r.at
      (λ m. (omega arith, λ d. absurd (d refl)))
      (λ q d m. let k : (r.at q).last ≤ t.number = omega (arith, i.lasts q m, ap (λ v. v.number) is-newest) in (omega arith, λ b. k))

  rules-after : Rules (length members) (turn_after (length members) p) (highest_after (r.at p) t c) (aru_after (r.at p) t c) outcome.place
      (λ q. (stations q).aru) (λ q. (stations q).level)
  unfolding visited
  rules-after =
      rules-visit (length members) p t.highest t.aru i.blocker (λ q. (r.at q).aru) (λ q. (r.at q).level) rules-here
      (level_after (r.at p) t c) (highest_after (r.at p) t c) (aru_after (r.at p) t c) outcome.place outcome.how (omega arith)
      (λ q. (stations q).aru) (λ q. (stations q).level)
      level-most
      (ap (λ s. s.aru) (update_here p (visited (r.at p) t c) r.at))
      (ap (λ s. s.level) (update_here p (visited (r.at p) t c) r.at))
      (λ q d. (ap (λ s. s.aru) (update_other p (visited (r.at p) t c) r.at q d), ap (λ s. s.level) (update_other p (visited (r.at p) t c) r.at q d)))

  pub inv-turn : Inv members first (record { at = stations; history = e ∷ r.history })
  unfolding token_after
  inv-turn =
      record {
        xs = i.xs ++ c.added;
        turn = turn_after (length members) p;
        blocker = outcome.place;
        readings = readings-more i.readings e c.repeats c.added (token_after (r.at p) t c)
            (event-writes p t c i.readings high_is a.allowed (i.each p))
            (repeats-old p t c i.readings high_is a.allowed (i.each p))
            (subst (λ k. NumberedFrom k c.added) high_is a.allowed.added);
        each = update-ind (λ q s. Local members first (i.xs ++ c.added) (e ∷ r.history) q s) p (visited (r.at p) t c) r.at
            (local-visited p t c i.readings high_is a.allowed (i.each p))
            (λ q d. local-other (i.xs ++ c.added) e (i.each q) (c.added, refl) (λ k. d (sym k)));
        highest-is = ap (λ u. u.highest) new ∙ high_after;
        addressee-is = ap (λ u. u.addressee) new ∙ ap (λ ms. next ms (r.at p).own) (i.each p).members-are ∙ ap (next members) (i.each p).own_is ∙ next_place members distinct p h;
        blocker-is = ap (λ u. u.blocker) new ∙ outcome.is;
        rules = subst (λ u. Rules (length members) (turn_after (length members) p) u.highest u.aru outcome.place (λ q. (stations q).aru) (λ q. (stations q).level))
            (sym new) rules-after;
        safe = λ q s k m. omega (arith, safes q k s m, levels-rise s);
        cable = subst (λ u. OnCable first (e ∷ r.history) (token u)) (sym new)
            (cable-new first e r.history (token (token_after (r.at p) t c))
            (subst (λ fs. Among (token (token_after (r.at p) t c)) fs) (sym (event-writes p t c i.readings high_is a.allowed (i.each p)))
            (among-right (map message c.repeats ++ map message c.added) (token (token_after (r.at p) t c) ∷ []) (token (token_after (r.at p) t c)) (inl refl))));
        older = λ u k.
            ⊎_elim (λ b. omega (arith, number-after, older-here u b)) (λ b. omega (arith, ap (λ v. v.number) (new-token u b ∙ sym new))) (cable-cases first e r.history (token u) k);
        only = λ u q m k own last. only-after u k q m own last ∙ sym new;
        lasts = λ q m. omega (arith, number-after, (lasts_after q m).0);
        waiting = λ two.
            let d : turn_after (length members) p ≢ p = ⊎_elim (λ w. omega (arith, w.0, w.1)) (λ w. omega (arith, w.1)) (turn-cases (length members) p) in
            omega (arith, number-after, (lasts_after (turn_after (length members) p) (turn_in (length members) p h)).1 d);
      }
