-- The smallest level of a round, on numbers alone: the token goes round n places, and what a visit does to its aru and its blocker.
use Prim.Native.Nat.{ℕ, suc, ◌+◌, ◌-◌, ◌<◌, ◌≤◌, min}
use mathlib.Core.Path.{◌≡◌, refl, sym, subst, ◌∙◌}
use mathlib.Core.Logic.{◌≢◌, ◌⊎◌, inl, inr, ⊎_elim}
use mathlib.Core.Bool.{cond}
use mathlib.Core.Option.{Option, none, some}
use native.Mathlib.Decide.{ℕ_discrete}
use native.Mathlib.Omega.{arith}
use lib.Dec.{leb, eqb}
use Rattle.ordering.proofs.Base.{leb-cases, eqb-cases, none-some, some_same}

-- ---- whose turn it is, and for how many visits a place waits

unfoldable pub turn_after : ℕ → ℕ → ℕ
turn_after n turn = cond (eqb (suc turn) n) 0 (suc turn)

pub turn-cases : (n turn : ℕ) → ((suc turn ≡ n) × (turn_after n turn ≡ 0)) ⊎ ((suc turn ≢ n) × (turn_after n turn ≡ suc turn))
unfolding turn_after
turn-cases n turn = ⊎_elim (λ w. inl (w.1, rw w.0)) (λ w. inr (w.1, rw w.0)) (eqb-cases (suc turn) n)

unfoldable pub waits : ℕ → ℕ → ℕ → ℕ
waits n turn p = cond (leb turn p) (p - turn) (p + n - turn)

pub waits-cases : (n turn p : ℕ) → ((turn ≤ p) × (waits n turn p ≡ p - turn)) ⊎ ((p < turn) × (waits n turn p ≡ p + n - turn))
unfolding waits
waits-cases n turn p = ⊎_elim (λ w. inl (w.1, rw w.0)) (λ w. inr (w.1, rw w.0)) (leb-cases turn p)

module _ (n turn : ℕ) (here : turn < n) where
  pub turn_in : turn_after n turn < n
  turn_in = ⊎_elim (λ w. omega arith) (λ w. omega arith) (turn-cases n turn)

  pub waits-none : waits n turn turn ≡ 0
  waits-none = ⊎_elim (λ w. omega arith) (λ w. omega arith) (waits-cases n turn turn)

  pub waits-some : (p : ℕ) → p < n → p ≢ turn → 0 < waits n turn p
  waits-some p h d = ⊎_elim (λ w. omega arith) (λ w. omega arith) (waits-cases n turn p)

  pub waits-few : (p : ℕ) → p < n → waits n turn p < n
  waits-few p h = ⊎_elim (λ w. omega arith) (λ w. omega arith) (waits-cases n turn p)

  -- it waits again for all the others
  pub waits-most : suc (waits n (turn_after n turn) turn) ≡ n
  waits-most =
      ⊎_elim
      (λ t. ⊎_elim (λ w. omega arith) (λ w. omega arith) (waits-cases n (turn_after n turn) turn))
      (λ t. ⊎_elim (λ w. omega arith) (λ w. omega arith) (waits-cases n (turn_after n turn) turn))
      (turn-cases n turn)

  -- everybody else waits for one visit less
  pub waits-less : (p : ℕ) → p < n → p ≢ turn → waits n turn p ≡ suc (waits n (turn_after n turn) p)
  waits-less p h d =
      ⊎_elim
      (λ t. ⊎_elim
      (λ w. ⊎_elim (λ v. omega arith) (λ v. omega arith) (waits-cases n (turn_after n turn) p))
      (λ w. ⊎_elim (λ v. omega arith) (λ v. omega arith) (waits-cases n (turn_after n turn) p))
      (waits-cases n turn p))
      (λ t. ⊎_elim
      (λ w. ⊎_elim (λ v. omega arith) (λ v. omega arith) (waits-cases n (turn_after n turn) p))
      (λ w. ⊎_elim (λ v. omega arith) (λ v. omega arith) (waits-cases n (turn_after n turn) p))
      (waits-cases n turn p))
      (turn-cases n turn)

-- ---- the blocker, by place

-- the blocker was visited since q
abbrev pub Since : ℕ → ℕ → Option ℕ → ℕ → Type 0
Since n turn b q = (v : ℕ) × (b ≡ some v) × (waits n turn q < waits n turn v)

-- a blocker is a place
abbrev pub Placed : ℕ → Option ℕ → Type 0
Placed n b = (v : ℕ) → b ≡ some v → v < n

-- the visited place may say its own level: it is the lower one, or blocks itself, or nobody does
abbrev pub Says : ℕ → ℕ → ℕ → Option ℕ → Type 0
Says turn level aru b = (level < aru) ⊎ ((v : ℕ) → b ≡ some v → v ≡ turn)

-- what a visit at `turn` does to aru and blocker, with the level there and the highest number
pub data Lowered (turn level highest aru : ℕ) (b : Option ℕ) (aru' : ℕ) (b' : Option ℕ) : Type 0 where
  stays : (v : ℕ) → b ≡ some v → v ≢ turn → aru ≤ level → aru' ≡ aru → b' ≡ some v → Lowered turn level highest aru b aru' b'
  blocks : Says turn level aru b → level < highest → aru' ≡ level → b' ≡ some turn → Lowered turn level highest aru b aru' b'
  frees : Says turn level aru b → level ≡ highest → aru' ≡ level → b' ≡ none → Lowered turn level highest aru b aru' b'

-- the visited place is not the blocker: it says its level only where that is lower
says-lower : (n turn level aru : ℕ) (b : Option ℕ) → Says turn level aru b → Since n turn b turn → level < aru
says-lower n turn level aru b (inl k) s = k
says-lower n turn level aru b (inr k) s = absurd (omega (arith, subst (λ u. waits n turn turn < waits n turn u) (k s.0 s.1) s.2))

module _ {turn level highest aru : ℕ} {b : Option ℕ} {aru' : ℕ} {b' : Option ℕ} where
  pub lowered-level : Lowered turn level highest aru b aru' b' → aru' ≤ level
  lowered-level (stays v e d h a f) = omega arith
  lowered-level (blocks s h a f) = omega arith
  lowered-level (frees s h a f) = omega arith

  pub lowered-free : Lowered turn level highest aru b aru' b' → b' ≡ none → aru' ≡ highest
  lowered-free (stays v e d h a f) g = absurd (none-some (sym g ∙ f))
  lowered-free (blocks s h a f) g = absurd (none-some (sym g ∙ f))
  lowered-free (frees s h a f) g = a ∙ h

  pub lowered-placed : (n : ℕ) → turn < n → Lowered turn level highest aru b aru' b' → Placed n b → Placed n b'
  lowered-placed n t (stays v e d h a f) pl u g = pl u (e ∙ sym f ∙ g)
  lowered-placed n t (blocks s h a f) pl u g = omega (arith, some_same f g)
  lowered-placed n t (frees s h a f) pl u g = absurd (none-some (sym f ∙ g))

  pub lowered-falls : (n : ℕ) → Lowered turn level highest aru b aru' b' → Since n turn b turn → aru' ≤ aru
  lowered-falls n (stays v e d h a f) s = omega arith
  lowered-falls n (blocks k h a f) s = omega (arith, says-lower n turn level aru b k s)
  lowered-falls n (frees k h a f) s = omega (arith, says-lower n turn level aru b k s)

-- ---- what holds of the newest token's aru and blocker, and of each place's aru and level

pub record Rules (n turn highest aru : ℕ) (b : Option ℕ) (arus levels : ℕ → ℕ) : Type 0 where
  pub here : turn < n
  pub placed : Placed n b
  pub low : aru ≤ highest
  pub free : b ≡ none → aru ≡ highest
  pub top : (q : ℕ) → q < n → levels q ≤ highest
  pub own : (q : ℕ) → q < n → arus q ≤ levels q
  -- a place's aru is at most the newest, unless the blocker was visited since
  pub newer : (q : ℕ) → q < n → (arus q ≤ aru) ⊎ Since n turn b q
  -- it is at most the level of each place visited since, or the newest is, and the blocker was visited since too
  pub below : (q r : ℕ) → q < n → r < n → waits n turn q < waits n turn r → (arus q ≤ levels r) ⊎ ((aru ≤ levels r) × Since n turn b q)

-- ---- a level rises

pub rules-rise : (n turn highest aru : ℕ) (b : Option ℕ) (arus levels arus' levels' : ℕ → ℕ)
    → Rules n turn highest aru b arus levels
    → ((q : ℕ) → q < n → arus' q ≡ arus q)
    → ((q : ℕ) → q < n → (levels q ≤ levels' q) × (levels' q ≤ highest))
    → Rules n turn highest aru b arus' levels'
rules-rise n turn highest aru b arus levels arus' levels' r same rise =
    record {
      here = r.here;
      placed = r.placed;
      low = r.low;
      free = r.free;
      top = λ q h. (rise q h).1;
      own = λ q h. omega (arith, same q h, rise q h, r.own q h);
      newer = λ q h. ⊎_elim (λ k. inl (omega (arith, same q h))) inr (r.newer q h);
      below = λ q s h k w.
          ⊎_elim (λ l. inl (omega (arith, same q h, rise s k))) (λ l. inr (omega (arith, rise s k, l.0), l.1)) (r.below q s h k w);
    }

-- ---- a visit

module _ (n turn highest aru : ℕ) (b : Option ℕ) (arus levels : ℕ → ℕ) (r : Rules n turn highest aru b arus levels)
    (level' highest' aru' : ℕ) (b' : Option ℕ) (how : Lowered turn level' highest' aru b aru' b') (more : highest ≤ highest') where
  -- the safe mark that the visit makes is below every level
  pub safe-below : (q : ℕ) → q < n → min (arus turn) aru' ≤ levels q
  safe-below q h =
      elim (ℕ_discrete q turn) [
        | yes e ↦ let k : arus turn ≤ levels q = subst (λ k. arus turn ≤ levels k) (sym e) (r.own turn r.here) in omega arith
        | no d ↦ ⊎_elim
            (λ k. omega arith)
            (λ k. omega (arith, k.0, lowered-falls n how k.1))
            (r.below turn q r.here h (omega (arith, waits-none n turn r.here, waits-some n turn r.here q h d)))
      ]

  -- a blocker visited since q still is
  since-stays : (v q : ℕ) → v < n → q < n → v ≢ turn → q ≢ turn → waits n turn q < waits n turn v → waits n (turn_after n turn) q < waits n (turn_after n turn) v
  since-stays v q hv hq dv dq s = omega (arith, waits-less n turn r.here v hv dv, waits-less n turn r.here q hq dq)

  -- the visited place is now the one visited last
  since-here : (q : ℕ) → q < n → q ≢ turn → waits n (turn_after n turn) q < waits n (turn_after n turn) turn
  since-here q hq dq = omega (arith, waits-most n turn r.here, waits-less n turn r.here q hq dq, waits-few n turn r.here q hq)

  -- the blocker after the visit, seen from another place
  since-after : (q : ℕ) → q < n → q ≢ turn → Since n turn b q → Lowered turn level' highest' aru b aru' b' → (aru' ≡ highest') ⊎ Since n (turn_after n turn) b' q
  since-after q h d s (stays v e dv k a f) =
      let u : s.0 ≡ v = some_same s.1 e in
      inr (v, f, since-stays v q (r.placed v e) h dv d (subst (λ k. waits n turn q < waits n turn k) u s.2))
  since-after q h d s (blocks k l a f) = inr (turn, f, since-here q h d)
  since-after q h d s (frees k l a f) = inl (a ∙ l)

  aru-top : (q : ℕ) → q < n → arus q ≤ highest'
  aru-top q h = omega (arith, r.own q h, r.top q h)

  newer-other : (q : ℕ) → q < n → q ≢ turn → Lowered turn level' highest' aru b aru' b'
      → (arus q ≤ aru) ⊎ Since n turn b q → (arus q ≤ aru') ⊎ Since n (turn_after n turn) b' q
  newer-other q h d l (inr s) = ⊎_elim (λ e. inl (omega (arith, aru-top q h))) inr (since-after q h d s l)
  newer-other q h d (stays v e dv k a f) (inl x) = inl (omega arith)
  newer-other q h d (blocks s k a f) (inl x) = inr (turn, f, since-here q h d)
  newer-other q h d (frees s k a f) (inl x) = inl (omega (arith, aru-top q h))

  below-here : (q : ℕ) → q < n → q ≢ turn → (arus q ≤ level') ⊎ ((aru' ≤ level') × Since n (turn_after n turn) b' q)
  below-here q h d =
      ⊎_elim (λ k. inl (omega (arith, lowered-level how))) (λ s. inr (lowered-level how, s)) (newer-other q h d how (r.newer q h))

  below_other : (q s : ℕ) → q < n → s < n → q ≢ turn → s ≢ turn → waits n turn q < waits n turn s
      → (arus q ≤ levels s) ⊎ ((aru' ≤ levels s) × Since n (turn_after n turn) b' q)
  below_other q s hq hs dq ds w =
      ⊎_elim
      inl
      (λ k.
      let z : Since n turn b turn = (k.1.0, k.1.1, omega (arith, k.1.2, waits-none n turn r.here)) in
      let falls : aru' ≤ aru = lowered-falls n how z in
      ⊎_elim
      (λ e. inl (omega (arith, k.0, aru-top q hq)))
      (λ t. inr (omega (arith, k.0), t))
      (since-after q hq dq k.1 how))
      (r.below q s hq hs w)

  pub rules-visit : (arus' levels' : ℕ → ℕ)
      → level' ≤ highest'
      → arus' turn ≡ aru'
      → levels' turn ≡ level'
      → ((q : ℕ) → q ≢ turn → (arus' q ≡ arus q) × (levels' q ≡ levels q))
      → Rules n (turn_after n turn) highest' aru' b' arus' levels'
  rules-visit arus' levels' most ea el other =
      record {
        here = turn_in n turn r.here;
        placed = lowered-placed n r.here how r.placed;
        low = omega (arith, lowered-level how);
        free = lowered-free how;
        top = λ q h. by q (λ k. levels' k ≤ highest') (omega arith) (λ d. omega (arith, other q d, r.top q h));
        own = λ q h. by q (λ k. arus' k ≤ levels' k) (omega (arith, lowered-level how)) (λ d. omega (arith, other q d, r.own q h));
        newer = λ q h.
            by q (λ k. (arus' k ≤ aru') ⊎ Since n (turn_after n turn) b' k) (inl (omega arith))
            (λ d. ⊎_elim (λ k. inl (omega (arith, other q d))) inr (newer-other q h d how (r.newer q h)));
        below = λ q s hq hs w.
            by q (λ k. waits n (turn_after n turn) k < waits n (turn_after n turn) s → (arus' k ≤ levels' s) ⊎ ((aru' ≤ levels' s) × Since n (turn_after n turn) b' k))
            (λ v. absurd (omega (arith, waits-most n turn r.here, waits-few n (turn_after n turn) (turn_in n turn r.here) s hs)))
            (λ dq.
            by s (λ k. waits n (turn_after n turn) q < waits n (turn_after n turn) k → (arus' q ≤ levels' k) ⊎ ((aru' ≤ levels' k) × Since n (turn_after n turn) b' q))
            (λ v. ⊎_elim (λ k. inl (omega (arith, other q dq))) (λ k. inr (omega (arith, k.0), k.1)) (below-here q hq dq))
            (λ ds v.
            ⊎_elim (λ k. inl (omega (arith, other q dq, other s ds))) (λ k. inr (omega (arith, k.0, other s ds), k.1))
            (below_other q s hq hs dq ds (omega (arith, waits-less n turn r.here q hq dq, waits-less n turn r.here s hs ds)))))
            w;
      }
    where
      by : (q : ℕ) (P : ℕ → Type 0) → P turn → (q ≢ turn → P q) → P q
      by q P x f = elim (ℕ_discrete q turn) [ yes e ↦ subst P (sym e) x | no d ↦ f d ]

-- ---- at the start

pub rules-start : (n : ℕ) → 1 ≤ n → Rules n 0 0 0 none (λ q. 0) (λ q. 0)
rules-start n h =
    record {
      here = h;
      placed = λ v e. absurd (none-some e);
      low = omega arith;
      free = λ e. refl;
      top = λ q k. omega arith;
      own = λ q k. omega arith;
      newer = λ q k. inl (omega arith);
      below = λ q r hq hr w. inl (omega arith);
    }
