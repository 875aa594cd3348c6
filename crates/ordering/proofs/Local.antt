-- What holds of one station, given the readings and the history; it stays when a call leaves the station as it is.
use Prim.Native.Nat.{ℕ, suc, ◌+◌, ◌-◌, ◌<◌, ◌≤◌}
use mathlib.Core.Path.{◌≡◌, refl, sym, ◌∙◌}
use mathlib.Core.Logic.{◌≢◌, ◌⊎◌, ⊎_elim}
use mathlib.Core.List.{List, [], ◌∷◌, ◌++◌}
use mathlib.Core.Option.{none, some}
use native.Mathlib.Omega.{arith}
use lib.ListN.{length, get_or, take}
use Rattle.ordering.specs.Lists.{Begins, first_of}
use Rattle.ordering.specs.inner.Frame.{Message, Token, message, token}
use Rattle.ordering.specs.inner.Station.{Store, Station, window, level_of, due}
use Rattle.ordering.specs.inner.History.{Event, Written, written_in, OnCable, reading, KeptAt, Received, handed_at}
use Rattle.ordering.specs.inner.Run.{fresh}
use Rattle.ordering.proofs.Base.{none-some, leb-cases}
use Rattle.ordering.proofs.Store.{Rise, rise-is, due-few, due-safe, due-take}
use Rattle.ordering.proofs.Cable.{cable-stays, received-stays, reading-cases, handed-other}
use Rattle.ordering.proofs.Readings.{Holds, holds-top, holds_at, longer-holds, longer-length, longer-take}

-- the station has it: up to its level, or held
abbrev pub Had : Station → ℕ → Type 0
Had s n = (n ≤ s.level) ⊎ ((x : Message) × (s.held n ≡ some x))

pub record Local (members : List ℕ) (first : Token) (xs : List Message) (history : List Event) (p : ℕ) (s : Station) : Type 0 where
  pub members-are : s.members ≡ members
  pub own_is : s.own ≡ get_or members p 0
  pub reads : (n : ℕ) (x : Message) → s.held n ≡ some x → Holds xs n x
  pub near : (n : ℕ) (x : Message) → s.held n ≡ some x → n ≤ s.safe + window
  pub safe-delivered : s.safe ≤ s.delivered
  pub delivered-level : s.delivered ≤ s.level
  pub level-top : s.level ≤ length xs
  pub aru-level : s.aru ≤ s.level
  pub filled : (k : ℕ) → s.safe < k → k ≤ s.level → (x : Message) × (s.held k ≡ some x)
  pub gap : s.held (suc s.level) ≡ none
  -- what it has is received there
  pub had : (n : ℕ) → 1 ≤ n → n ≤ s.level → Received p n history
  pub holds : (n : ℕ) (x : Message) → s.held n ≡ some x → Received p n history
  -- and the other way round
  pub kept : (x : Message) → KeptAt p (message x) history → Had s x.number
  pub wrote : (n : ℕ) (w : Written) → reading history n ≡ some w → w.place ≡ p → Had s n
  pub handed : handed_at p history ≡ take s.delivered xs
  pub resendable : (t : Token) → s.resendable ≡ some t → OnCable first history (token t)

-- ---- the station stays as it is

pub local-idle : {members : List ℕ} {first : Token} {xs : List Message} {history : List Event} {p : ℕ} {s : Station} (ys : List Message) (e : Event)
    → Local members first xs history p s
    → Begins xs ys
    → ((x : Message) → KeptAt p (message x) (e ∷ history) → KeptAt p (message x) history)
    → ((n : ℕ) (w : Written) → reading (e ∷ history) n ≡ some w → w.place ≡ p → reading history n ≡ some w)
    → handed_at p (e ∷ history) ≡ handed_at p history
    → Local members first ys (e ∷ history) p s
local-idle {members} {first} {xs} {history} {p} {s} ys e l more calm same handed =
    record {
      members-are = l.members-are;
      own_is = l.own_is;
      reads = λ n x h. longer-holds xs ys more n x (l.reads n x h);
      near = l.near;
      safe-delivered = l.safe-delivered;
      delivered-level = l.delivered-level;
      level-top = omega (arith, l.level-top, longer-length xs ys more);
      aru-level = l.aru-level;
      filled = l.filled;
      gap = l.gap;
      had = λ n a b. received-stays e history n p (l.had n a b);
      holds = λ n x h. received-stays e history n p (l.holds n x h);
      kept = λ x h. l.kept x (calm x h);
      wrote = λ n w h k. l.wrote n w (same n w h k) k;
      handed = handed ∙ l.handed ∙ sym (longer-take xs ys more s.delivered (omega (arith, l.delivered-level, l.level-top)));
      resendable = λ t h. cable-stays first e history (token t) (l.resendable t h);
    }

-- a call at another place
pub local-other : {members : List ℕ} {first : Token} {xs : List Message} {history : List Event} {p : ℕ} {s : Station} (ys : List Message) (e : Event)
    → Local members first xs history p s
    → Begins xs ys
    → e.place ≢ p
    → Local members first ys (e ∷ history) p s
local-other {history = history} {p} ys e l more d =
    local-idle ys e l more
    (λ x h. ⊎_elim (λ k. absurd (d k.0)) (λ k. k) h)
    (λ n w h k. ⊎_elim (λ q. q) (λ q. absurd (d (sym q.1 ∙ k))) (reading-cases e history n w h))
    (handed-other p e history d)

-- ---- the station holds more: how far its level rises and what it delivers

pub record Climbed (ys : List Message) (s : Station) (h : Store) (safe : ℕ) : Type 0 where
  pub rise : Rise h s.level (level_of h s.level)
  pub filled : (k : ℕ) → s.safe < k → k ≤ level_of h s.level → (x : Message) × (h k ≡ some x)
  pub top : level_of h s.level ≤ length ys
  pub safe-delivered : safe ≤ s.delivered + length (due h safe (level_of h s.level - s.delivered) s.delivered)
  pub delivered-top : s.delivered + length (due h safe (level_of h s.level - s.delivered) s.delivered) ≤ level_of h s.level
  pub handed : take s.delivered ys ++ due h safe (level_of h s.level - s.delivered) s.delivered
      ≡ take (s.delivered + length (due h safe (level_of h s.level - s.delivered) s.delivered)) ys

pub climbed : {members : List ℕ} {first : Token} {xs : List Message} {history : List Event} {p : ℕ} {s : Station} (ys : List Message) (h : Store) (safe : ℕ)
    → Local members first xs history p s
    → Begins xs ys
    → ((n : ℕ) (x : Message) → h n ≡ some x → Holds ys n x)
    → ((n : ℕ) (x : Message) → h n ≡ some x → n ≤ s.safe + window)
    → ((n : ℕ) (x : Message) → s.held n ≡ some x → (y : Message) × (h n ≡ some y))
    → safe ≤ level_of h s.level
    → Climbed ys s h safe
climbed {members} {first} {xs} {history} {p} {s} ys h safe l more reads near keeps low =
    record {
      rise = up;
      filled = filled';
      top = ⊎_elim
          (λ w. omega (arith, w.1, l.level-top, longer-length xs ys more))
          (λ w. let f = up.filled level w.1 (omega arith) in holds-top ys level f.0 (reads level f.0 f.1))
          (leb-cases level s.level);
      safe-delivered = due-safe h safe level n s.delivered
          (λ k a b. filled' k (omega (arith, l.safe-delivered)) b)
          (omega (arith, l.delivered-level, up.up))
          low;
      delivered-top = omega (arith, due-few h safe n s.delivered, l.delivered-level, up.up);
      handed = due-take h safe ys (λ k x e. holds_at ys k x (reads (suc k) x e)) n s.delivered;
    }
  where
    level : ℕ
    level = level_of h s.level

    n : ℕ
    n = level - s.delivered

    up : Rise h s.level level
    up = rise-is h s.safe s.level (omega (arith, l.safe-delivered, l.delivered-level)) near

    filled' : (k : ℕ) → s.safe < k → k ≤ level → (x : Message) × (h k ≡ some x)
    filled' k a b =
        ⊎_elim
        (λ w. let f = l.filled k a w.1 in keeps k f.0 f.1)
        (λ w. up.filled k w.1 b)
        (leb-cases k s.level)

-- ---- at the start

pub local-start : (members : List ℕ) (first : Token) (p : ℕ) → Local members first [] [] p (fresh members p)
unfolding handed_at reading written_in first_of
local-start members first p =
    record {
      members-are = refl;
      own_is = refl;
      reads = λ n x e. absurd (none-some e);
      near = λ n x e. absurd (none-some e);
      safe-delivered = omega arith;
      delivered-level = omega arith;
      level-top = omega arith;
      aru-level = omega arith;
      filled = λ k a b. absurd (omega arith);
      gap = refl;
      had = λ n a b. absurd (omega arith);
      holds = λ n x e. absurd (none-some e);
      kept = λ x h. absurd h;
      wrote = λ n w e k. absurd (none-some e);
      handed = refl;
      resendable = λ t e. absurd (none-some e);
    }
