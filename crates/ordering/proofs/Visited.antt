-- What holds of a station still holds when it accepts a token.
use Prim.Native.Nat.{ℕ, suc, ◌+◌, ◌-◌, ◌<◌, ◌≤◌, min, max}
use mathlib.Core.Path.{◌≡◌, refl, sym, ap, subst, ◌∙◌}
use mathlib.Core.Logic.{◌≢◌, ◌⊎◌, inl, inr, ⊎_elim}
use mathlib.Core.Bool.{true, false, ◌||◌}
use mathlib.Core.List.{List, [], ◌∷◌, ◌++◌, map}
use mathlib.Core.Option.{Option, none, some}
use native.Mathlib.Omega.{arith}
use lib.ListN.{length, get_elem?}
use Rattle.ordering.specs.Lists.{Among}
use Rattle.ordering.specs.inner.Frame.{Message, Token, message, token}
use Rattle.ordering.specs.inner.Station.{Station, window, release, due}
use Rattle.ordering.specs.inner.Visit.{Choice, Allowed, NumberedFrom, held_after, highest_after, level_after, own_or_nobody, lowers, aru_after, blocker_after, safe_after, token_after, handed_after, visited, visit_writes}
use Rattle.ordering.specs.inner.History.{Event, Written, written_at, reading, Received}
use Rattle.ordering.specs.inner.Run.{visiting, event}
use Rattle.ordering.proofs.Base.{none-some, some_same, leb-cases, ltb-cases, eqb-cases, at-short, at_after, among-right, among-place}
use Rattle.ordering.proofs.Store.{PutAll, new, old, put-all-cases, release-cases, level-up, numbered-at}
use Rattle.ordering.proofs.Cable.{cable-new, received-stays, reading-cases, handed-here}
use Rattle.ordering.proofs.Readings.{Holds, Readings, holds-number, longer-holds, longer-take, new-reading, written-cases}
use Rattle.ordering.proofs.Local.{Had, Local, Climbed, climbed}

-- ---- aru and blocker afterwards, by ids

pub data Lowers (s : Station) (t : Token) (c : Choice) : Type 0 where
  leaves : (id : ℕ) → t.blocker ≡ some id → id ≢ s.own → t.aru ≤ level_after s t c → aru_after s t c ≡ t.aru → blocker_after s t c ≡ t.blocker → Lowers s t c
  says : (level_after s t c < t.aru) ⊎ ((id : ℕ) → t.blocker ≡ some id → id ≡ s.own)
      → aru_after s t c ≡ level_after s t c
      → ((level_after s t c ≡ highest_after s t c) × (blocker_after s t c ≡ none)) ⊎ ((level_after s t c ≢ highest_after s t c) × (blocker_after s t c ≡ some s.own))
      → Lowers s t c

module _ (s : Station) (t : Token) (c : Choice) where
  own-cases : (b : Option ℕ) → t.blocker ≡ b
      → ((own_or_nobody s t c t.blocker ≡ true) × ((id : ℕ) → t.blocker ≡ some id → id ≡ s.own))
      ⊎ ((own_or_nobody s t c t.blocker ≡ false) × ((id : ℕ) × (t.blocker ≡ some id) × (id ≢ s.own)))
  own-cases none e = inl (ap (own_or_nobody s t c) e, λ id f. absurd (none-some (sym e ∙ f)))
  own-cases (some id) e =
      ⊎_elim
      (λ w. inl (ap (own_or_nobody s t c) e ∙ w.0, λ v f. some_same f e ∙ w.1))
      (λ w. inr (ap (own_or_nobody s t c) e ∙ w.0, (id, e, w.1)))
      (eqb-cases id s.own)

  says_is : (level_after s t c < t.aru) ⊎ ((id : ℕ) → t.blocker ≡ some id → id ≡ s.own) → lowers s t c ≡ true → Lowers s t c
  unfolding aru_after blocker_after
  says_is why e =
      ⊎_elim
      (λ w. says why (rw e) (inl (w.1, rw (e, w.0))))
      (λ w. says why (rw e) (inr (w.1, rw (e, w.0))))
      (eqb-cases (level_after s t c) (highest_after s t c))

  pub lowers-cases : Lowers s t c
  unfolding aru_after blocker_after
  lowers-cases =
      ⊎_elim
      (λ a. says_is (inl a.1) (ap (λ b. b || own_or_nobody s t c t.blocker) a.0))
      (λ a.
      ⊎_elim
      (λ w. says_is (inr w.1) (ap (λ b. b || own_or_nobody s t c t.blocker) a.0 ∙ w.0))
      (λ w.
      let e : lowers s t c ≡ false = ap (λ b. b || own_or_nobody s t c t.blocker) a.0 ∙ w.0 in
      leaves w.1.0 w.1.1 w.1.2 a.1 (rw e) (rw e))
      (own-cases t.blocker refl))
      (ltb-cases (level_after s t c) t.aru)

  pub aru-after-level : aru_after s t c ≤ level_after s t c
  aru-after-level = go lowers-cases
    where
      go : Lowers s t c → aru_after s t c ≤ level_after s t c
      go (leaves id e d h a b) = omega arith
      go (says why a b) = omega arith

  -- ---- the safe mark

  pub safe-after-is : safe_after s t c ≡ max s.safe (min s.aru (aru_after s t c))
  unfolding safe_after
  safe-after-is = refl

-- ---- the station afterwards

module _ {members : List ℕ} {first : Token} {xs : List Message} {history : List Event} {s : Station} (p : ℕ) (t : Token) (c : Choice)
    (r : Readings first xs history) (high : t.highest ≡ length xs) (a : Allowed s t c) (l : Local members first xs history p s) where
  num : NumberedFrom (length xs) c.added
  num = subst (λ k. NumberedFrom k c.added) high a.added

  pub event-writes : (event s (visiting p t c)).written ≡ map message c.repeats ++ map message c.added ++ (token (token_after s t c) ∷ [])
  unfolding visit_writes
  event-writes = refl

  pub repeats-old : (x : Message) → Among x c.repeats → Holds xs x.number x
  repeats-old x h =
      let k = a.repeats x h in
      let q = l.reads k.0 x k.1 in
      subst (λ m. Holds xs m x) (sym (holds-number r k.0 x q)) q

  reads' : (n : ℕ) (x : Message) → held_after s t c n ≡ some x → Holds (xs ++ c.added) n x
  reads' n x h = go (put-all-cases (length xs) c.added s.held n num)
    where
      go : PutAll (length xs) c.added s.held n → Holds (xs ++ c.added) n x
      go (new j y e at is) = (length xs + j, at, at_after xs c.added j ∙ e ∙ sym is ∙ h)
      go (old far is) = longer-holds xs (xs ++ c.added) (c.added, refl) n x (l.reads n x (sym is ∙ h))

  pub after-number : (n : ℕ) (x : Message) → held_after s t c n ≡ some x → x.number ≡ n
  after-number n x h = go (put-all-cases (length xs) c.added s.held n num)
    where
      go : PutAll (length xs) c.added s.held n → x.number ≡ n
      go (new j y e at is) = ap (λ m. m.number) (some_same h is) ∙ numbered-at (length xs) c.added j y num e ∙ sym at
      go (old far is) = holds-number r n x (l.reads n x (sym is ∙ h))

  near' : (n : ℕ) (x : Message) → held_after s t c n ≡ some x → n ≤ s.safe + window
  near' n x h = go (put-all-cases (length xs) c.added s.held n num)
    where
      go : PutAll (length xs) c.added s.held n → n ≤ s.safe + window
      go (new j y e at is) = omega (arith, at-short c.added j y e, a.few, high)
      go (old far is) = l.near n x (sym is ∙ h)

  more' : (n : ℕ) (x : Message) → s.held n ≡ some x → (y : Message) × (held_after s t c n ≡ some y)
  more' n x h = go (put-all-cases (length xs) c.added s.held n num)
    where
      go : PutAll (length xs) c.added s.held n → (y : Message) × (held_after s t c n ≡ some y)
      go (new j y e at is) = (y, is)
      go (old far is) = (x, is ∙ h)

  pub safe-after-level : safe_after s t c ≤ level_after s t c
  safe-after-level = omega (arith, safe-after-is s t c, l.aru-level, l.safe-delivered, l.delivered-level, level-up (held_after s t c) s.level)

  pub climb : Climbed (xs ++ c.added) s (held_after s t c) (safe_after s t c)
  climb = climbed (xs ++ c.added) (held_after s t c) (safe_after s t c) l (c.added, refl) reads' near' more' safe-after-level

  kept-after : (n : ℕ) (x : Message) → release (safe_after s t c) (held_after s t c) n ≡ some x → held_after s t c n ≡ some x
  kept-after n x h = ⊎_elim (λ w. sym w.1 ∙ h) (λ w. absurd (none-some (sym w.1 ∙ h))) (release-cases (safe_after s t c) (held_after s t c) n)

  holds' : (n : ℕ) (x : Message) → held_after s t c n ≡ some x → Received p n (event s (visiting p t c) ∷ history)
  holds' n x h = go (put-all-cases (length xs) c.added s.held n num)
    where
      go : PutAll (length xs) c.added s.held n → Received p n (event s (visiting p t c) ∷ history)
      go (new j y e at is) =
          record {
            first = written_at p (message y);
            is = subst (λ m. reading (event s (visiting p t c) ∷ history) m ≡ some (written_at p (message y))) (sym at)
                (new-reading r (event s (visiting p t c)) c.repeats c.added (token_after s t c) event-writes repeats-old num j y e);
            how = inr refl;
          }
      go (old far is) = received-stays (event s (visiting p t c)) history n p (l.holds n x (sym is ∙ h))

  after-had : (n : ℕ) (x : Message) → held_after s t c n ≡ some x → Had (visited s t c) n
  unfolding visited
  after-had n x h =
      ⊎_elim
      (λ w. inr (x, w.1 ∙ h))
      (λ w. inl (omega (arith, w.0, safe-after-level)))
      (release-cases (safe_after s t c) (held_after s t c) n)

  more : (n : ℕ) → Had s n → Had (visited s t c) n
  unfolding visited
  more n (inl h) = inl (omega (arith, level-up (held_after s t c) s.level))
  more n (inr h) = let q = more' n h.0 h.1 in after-had n q.0 q.1

  wrote' : (n : ℕ) (w : Written) → reading (event s (visiting p t c) ∷ history) n ≡ some w → w.place ≡ p → Had (visited s t c) n
  wrote' n w h k =
      ⊎_elim
      (λ q. more n (l.wrote n w q k))
      (λ q.
      let x = q.2.0 in
      let number : x.number ≡ n = q.2.1 in
      ⊎_elim
      (λ m.
      let g = a.repeats x m in
      let e : g.0 ≡ n = sym (holds-number r g.0 x (l.reads g.0 x g.1)) ∙ number in
      more n (inr (x, subst (λ i. s.held i ≡ some x) e g.1)))
      (λ m. let g = among-place c.added x m in fresh n x g.0 number g.1 (put-all-cases (length xs) c.added s.held n num))
      (written-cases r (event s (visiting p t c)) c.repeats c.added (token_after s t c) event-writes repeats-old num x q.2.3))
      (reading-cases (event s (visiting p t c)) history n w h)
    where
      fresh : (n : ℕ) (x : Message) (j : ℕ) → x.number ≡ n → get_elem? c.added j ≡ some x → PutAll (length xs) c.added s.held n → Had (visited s t c) n
      fresh n x j e at (new i y f g is) = after-had n y is
      fresh n x j e at (old (inl far) is) = absurd (omega (arith, numbered-at (length xs) c.added j x num at))
      fresh n x j e at (old (inr far) is) = absurd (omega (arith, numbered-at (length xs) c.added j x num at, at-short c.added j x at))

  pub local-visited : Local members first (xs ++ c.added) (event s (visiting p t c) ∷ history) p (visited s t c)
  unfolding visited handed_after
  local-visited =
      record {
        members-are = l.members-are;
        own_is = l.own_is;
        reads = λ n x h. reads' n x (kept-after n x h);
        near = λ n x h. omega (arith, near' n x (kept-after n x h), safe-after-is s t c);
        safe-delivered = climb.safe-delivered;
        delivered-level = climb.delivered-top;
        level-top = climb.top;
        aru-level = aru-after-level s t c;
        filled = λ k lo hi.
            let f = climb.filled k (omega (arith, safe-after-is s t c)) hi in
            (f.0, ⊎_elim (λ w. w.1 ∙ f.1) (λ w. absurd (omega (arith, w.0))) (release-cases (safe_after s t c) (held_after s t c) k));
        gap = ⊎_elim (λ w. w.1 ∙ climb.rise.gap) (λ w. w.1) (release-cases (safe_after s t c) (held_after s t c) (suc (level_after s t c)));
        had = λ n lo hi.
            ⊎_elim
            (λ w. received-stays (event s (visiting p t c)) history n p (l.had n lo w.1))
            (λ w. let f = climb.rise.filled n w.1 hi in holds' n f.0 f.1)
            (leb-cases n s.level);
        holds = λ n x h. holds' n x (kept-after n x h);
        kept = λ x h. ⊎_elim (λ k. absurd (none-some k.1.1)) (λ k. more x.number (l.kept x k)) h;
        wrote = wrote';
        handed = handed-here (event s (visiting p t c)) history
            ∙ ap (λ ys. ys ++ due (held_after s t c) (safe_after s t c) (level_after s t c - s.delivered) s.delivered)
            (l.handed ∙ sym (longer-take xs (xs ++ c.added) (c.added, refl) s.delivered (omega (arith, l.delivered-level, l.level-top))))
            ∙ climb.handed;
        resendable = λ u h.
            let e : token_after s t c ≡ u = (let k : some (token_after s t c) ≡ some u = h in cc) in
            cable-new first (event s (visiting p t c)) history (token u)
            (subst (λ fs. Among (token u) fs) (sym event-writes)
            (among-right (map message c.repeats ++ map message c.added) (token (token_after s t c) ∷ []) (token u) (inl (ap token (sym e)))));
      }
