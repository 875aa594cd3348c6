-- A station as ordering sees it, and a message that arrives there.
use Rattle.std.specs.Prelude.{ℕ, zero, suc, ◌+◌, ◌-◌, Bool, true, false, not, ◌&&◌, ◌||◌, cond, List, [], ◌∷◌, length, leb, ltb, eqb}
use Rattle.std.proofs.Math.Option.{Option, none, some}
use Rattle.ordering.specs.inner.Frame.{Message, Token}

-- the messages that a station holds, by number
abbrev pub Store : Type 0
Store = ℕ → Option Message

pub record Station : Type 0 where
  -- in circulation order
  pub members : List ℕ
  pub own : ℕ
  -- everything 1 to it received; the paper's my_aru
  pub level : ℕ
  pub safe : ℕ
  pub delivered : ℕ
  -- of the token last forwarded
  pub aru : ℕ
  pub last : ℕ
  -- the token that may be resent
  pub resendable : Option Token
  pub held : Store

-- numbers above the safe mark that a station holds
abbrev pub window : ℕ
window = 32

abbrev pub given : {A : Type 0} → Option A → Bool
given none = false
given (some x) = true

-- ---- what is held

unfoldable pub put : Message → Store → Store
put x h n = cond (eqb n x.number) (some x) (h n)

unfoldable pub put_all : List Message → Store → Store
put_all [] h = h
put_all (x ∷ xs) h = put_all xs (put x h)

unfoldable pub release : ℕ → Store → Store
release safe h n = cond (ltb safe n) (h n) none

-- ---- the level rises as far as it can, by n at most

unfoldable pub reached : (ℕ → Bool) → ℕ → ℕ → ℕ
reached has zero level = level
reached has (suc n) level = cond (has (suc level)) (reached has n (suc level)) level

abbrev pub level_of : Store → ℕ → ℕ
level_of h level = reached (λ n. given (h n)) window level

-- ---- deliver: n numbers from d + 1 on, while each is agreed or at most the safe mark

unfoldable pub due : Store → ℕ → ℕ → ℕ → List Message
due h safe zero d = []
due h safe (suc n) d =
    elim (h (suc d)) [
      | none ↦ []
      | some x ↦ cond (not x.safe || leb (suc d) safe) (x ∷ due h safe n (suc d)) []
    ]

-- ---- a message arrives

-- not had, and not ahead
unfoldable pub keeps : Station → Message → Bool
keeps s x = ltb s.safe x.number && leb x.number (s.safe + window) && not (given (s.held x.number))

abbrev pub held_with : Station → Message → Store
held_with s x = cond (keeps s x) (put x s.held) s.held

abbrev pub level_with : Station → Message → ℕ
level_with s x = level_of (held_with s x) s.level

-- what is delivered then
unfoldable pub handed_with : Station → Message → List Message
handed_with s x = due (held_with s x) s.safe (level_with s x - s.delivered) s.delivered

unfoldable pub heard : Station → Message → Station
heard s x =
    record {
      members = s.members;
      own = s.own;
      level = level_with s x;
      safe = s.safe;
      delivered = s.delivered + length (handed_with s x);
      aru = s.aru;
      last = s.last;
      resendable = none;
      held = held_with s x;
    }
