-- What holds of a station still holds when a message arrives there.
use Prim.Native.Nat.{ℕ, ◌+◌, ◌-◌, ◌<◌, ◌≤◌}
use mathlib.Core.Path.{◌≡◌, refl, sym, ap, subst, ◌∙◌}
use mathlib.Core.Logic.{◌⊎◌, inl, inr, ⊎_elim}
use mathlib.Core.Bool.{Bool, true, false, not, cond}
use mathlib.Core.List.{List, ◌∷◌, ◌++◌}
use mathlib.Core.Option.{none, some}
use native.Mathlib.Omega.{arith}
use Rattle.ordering.specs.inner.Frame.{Message, Token, message}
use Rattle.ordering.specs.inner.Station.{Station, window, given, put, keeps, held_with, level_with, handed_with, heard, due}
use Rattle.ordering.specs.inner.History.{Event, written_at, OnCable, Received}
use Rattle.ordering.specs.inner.Run.{hearing, event}
use Rattle.ordering.proofs.Base.{none-some, some_same, leb-cases, ltb-cases}
use Rattle.ordering.proofs.Store.{put-cases, level-up}
use Rattle.ordering.proofs.Cable.{received-stays, reading-stays, reading-cases, handed-here}
use Rattle.ordering.proofs.Readings.{Holds, Readings, holds-reading, longer-self}
use Rattle.ordering.proofs.Local.{Had, Local, Climbed, climbed}

-- ---- a message that is kept

pub data Keeps (s : Station) (x : Message) : Type 0 where
  keeping : keeps s x ≡ true → s.safe < x.number → x.number ≤ s.safe + window → Keeps s x
  passing : keeps s x ≡ false → Keeps s x

pub keeps-cases : (s : Station) (x : Message) → Keeps s x
unfolding keeps
keeps-cases s x =
    ⊎_elim
    (λ low.
    ⊎_elim
    (λ high. go (not (given (s.held x.number))) low.1 high.1 (rw (low.0, high.0)))
    (λ high. passing (rw (low.0, high.0)))
    (leb-cases x.number (s.safe + window)))
    (λ low. passing (rw low.0))
    (ltb-cases s.safe x.number)
  where
    go : (b : Bool) → s.safe < x.number → x.number ≤ s.safe + window → keeps s x ≡ b → Keeps s x
    go true low high e = keeping e low high
    go false low high e = passing e

module _ (s : Station) (x : Message) where
  -- held afterwards: the message, or what was
  pub with_cases : (n : ℕ)
      → ((keeps s x ≡ true) × (n ≡ x.number) × (x.number ≤ s.safe + window) × (held_with s x n ≡ some x)) ⊎ (held_with s x n ≡ s.held n)
  with_cases n = go (keeps-cases s x)
    where
      go : Keeps s x → ((keeps s x ≡ true) × (n ≡ x.number) × (x.number ≤ s.safe + window) × (held_with s x n ≡ some x)) ⊎ (held_with s x n ≡ s.held n)
      go (passing e) = inr (rw e)
      go (keeping e low high) =
          ⊎_elim (λ w. inl (e, w.0, high, ap (λ b. cond b (put x s.held) s.held n) e ∙ w.1)) (λ w. inr (ap (λ b. cond b (put x s.held) s.held n) e ∙ w.1)) (put-cases x s.held n)

  pub with-kept : keeps s x ≡ true → held_with s x x.number ≡ some x
  with-kept e = ap (λ b. cond b (put x s.held) s.held x.number) e ∙ ⊎_elim (λ w. w.1) (λ w. absurd (w.0 refl)) (put-cases x s.held x.number)

  pub with-more : (n : ℕ) (y : Message) → s.held n ≡ some y → (z : Message) × (held_with s x n ≡ some z)
  with-more n y h = ⊎_elim (λ w. (x, w.3)) (λ w. (y, w ∙ h)) (with_cases n)

-- ---- the station afterwards

kept-is : (b : Bool) (x y : Message) → cond b (some x) none ≡ some y → (b ≡ true) × (x ≡ y)
kept-is true x y e = (refl, cc)
kept-is false x y e = absurd (none-some e)

pub local-heard : {members : List ℕ} {first : Token} {xs : List Message} {history : List Event} {s : Station} (p : ℕ) (x : Message)
    → Readings first xs history
    → OnCable first history (message x)
    → Local members first xs history p s
    → Local members first xs (event s (hearing p x) ∷ history) p (heard s x)
unfolding heard handed_with
local-heard {members} {first} {xs} {history} {s} p x r cable l =
    record {
      members-are = l.members-are;
      own_is = l.own_is;
      reads = reads';
      near = near';
      safe-delivered = c.safe-delivered;
      delivered-level = c.delivered-top;
      level-top = c.top;
      aru-level = omega (arith, l.aru-level, c.rise.up);
      filled = c.filled;
      gap = c.rise.gap;
      had = λ n a b.
          ⊎_elim
          (λ w. received-stays e history n p (l.had n a w.1))
          (λ w. let f = c.rise.filled n w.1 b in holds' n f.0 f.1)
          (leb-cases n s.level);
      holds = holds';
      kept = λ y h. ⊎_elim
          (λ k.
          let q = kept-is (keeps s x) x k.1.0 k.1.1 in
          let same : x ≡ y = (let a : message y ≡ message k.1.0 = k.1.2 in let b : x ≡ k.1.0 = q.1 in cc) in
          inr (x, subst (λ z. held_with s x z.number ≡ some x) same (with-kept s x q.0)))
          (λ k. more y.number (l.kept y k))
          h;
      wrote = λ n w h k. ⊎_elim (λ q. more n (l.wrote n w q k)) (λ q. absurd q.2.3) (reading-cases e history n w h);
      handed = handed-here e history ∙ ap (λ ys. ys ++ due (held_with s x) s.safe (level_with s x - s.delivered) s.delivered) l.handed ∙ c.handed;
      resendable = λ t h. absurd (none-some h);
    }
  where
    e : Event
    e = event s (hearing p x)

    reads' : (n : ℕ) (y : Message) → held_with s x n ≡ some y → Holds xs n y
    reads' n y h =
        ⊎_elim
        (λ w.
        let same : x ≡ y = some_same w.3 h in
        subst (λ z. Holds xs n z) same (subst (λ m. Holds xs m x) (sym w.1) (r.cable x cable)))
        (λ w. l.reads n y (sym w ∙ h))
        (with_cases s x n)

    near' : (n : ℕ) (y : Message) → held_with s x n ≡ some y → n ≤ s.safe + window
    near' n y h = ⊎_elim (λ w. omega (arith, w.1, w.2)) (λ w. l.near n y (sym w ∙ h)) (with_cases s x n)

    c : Climbed xs s (held_with s x) s.safe
    c = climbed xs (held_with s x) s.safe l (longer-self xs) reads' near' (with-more s x) (omega (arith, level-up (held_with s x) s.level, l.safe-delivered, l.delivered-level))

    more : (n : ℕ) → Had s n → Had (heard s x) n
    more n (inl h) = inl (omega (arith, c.rise.up))
    more n (inr h) = inr (with-more s x n h.0 h.1)

    holds' : (n : ℕ) (y : Message) → held_with s x n ≡ some y → Received p n (e ∷ history)
    holds' n y h =
        ⊎_elim
        (λ w.
        let q = holds-reading r n x (subst (λ m. Holds xs m x) (sym w.1) (r.cable x cable)) in
        record {
          first = written_at q.0 (message x);
          is = reading-stays e history n (written_at q.0 (message x)) q.1;
          how = inl (inl (refl, (x, rw w.0, refl)));
        })
        (λ w. received-stays e history n p (l.holds n y (sym w ∙ h)))
        (with_cases s x n)
