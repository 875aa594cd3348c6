-- A token is accepted, as ordering sees it. What a visit chooses (which messages it repeats, which new ones it sends, the rest of the
-- token) is a parameter; `Allowed` says what ordering asks of the choice.
use Rattle.std.specs.Prelude.{ℕ, suc, ◌+◌, ◌-◌, min, max, ◌≤◌, ◌≡◌, Bool, true, ◌||◌, cond, List, [], ◌∷◌, ◌++◌, map, length, get_or, ltb, eqb}
use Rattle.std.proofs.Math.Option.{Option, none, some}
use Rattle.ordering.specs.Lists.{Among}
use Rattle.ordering.specs.inner.Frame.{Message, Token, Frame, message, token}
use Rattle.ordering.specs.inner.Station.{Store, Station, window, put_all, release, level_of, due}

pub record Choice : Type 0 where
  pub repeats : List Message
  -- the new messages
  pub added : List Message
  -- of the token that is written
  pub text : List ℕ

-- numbered one after another, from n + 1 on
abbrev pub NumberedFrom : ℕ → List Message → Type 0
NumberedFrom n [] = Unit {0}
NumberedFrom n (x ∷ xs) = (x.number ≡ suc n) × NumberedFrom (suc n) xs

pub record Allowed (s : Station) (t : Token) (c : Choice) : Type 0 where
  -- a repeat is held
  pub repeats : (x : Message) → Among x c.repeats → (n : ℕ) × (s.held n ≡ some x)
  -- new messages take the next numbers, up to safe mark + 32
  pub added : NumberedFrom t.highest c.added
  pub few : t.highest + length c.added ≤ max t.highest (s.safe + window)

-- the member after `own`; after the last comes the first
unfoldable pub next_in : ℕ → List ℕ → ℕ → ℕ
next_in first [] own = first
next_in first (x ∷ xs) own = cond (eqb x own) (get_or xs 0 first) (next_in first xs own)

abbrev pub next : List ℕ → ℕ → ℕ
next members own = next_in (get_or members 0 0) members own

module _ (s : Station) (t : Token) (c : Choice) where
  -- 3
  abbrev pub held_after : Store
  held_after = put_all c.added s.held

  abbrev pub highest_after : ℕ
  highest_after = t.highest + length c.added

  abbrev pub level_after : ℕ
  level_after = level_of held_after s.level

  -- 4: the level is below aru, or the blocker is oneself or nobody
  abbrev pub own_or_nobody : Option ℕ → Bool
  own_or_nobody none = true
  own_or_nobody (some id) = eqb id s.own

  abbrev pub lowers : Bool
  lowers = ltb level_after t.aru || own_or_nobody t.blocker

  unfoldable pub aru_after : ℕ
  aru_after = cond lowers level_after t.aru

  unfoldable pub blocker_after : Option ℕ
  blocker_after = cond lowers (cond (eqb level_after highest_after) none (some s.own)) t.blocker

  -- 6
  unfoldable pub safe_after : ℕ
  safe_after = max s.safe (min s.aru aru_after)

  -- 8
  unfoldable pub token_after : Token
  token_after =
      record {
        number = suc t.number;
        addressee = next s.members s.own;
        highest = highest_after;
        aru = aru_after;
        blocker = blocker_after;
        text = c.text;
      }

  -- 9
  unfoldable pub handed_after : List Message
  handed_after = due held_after safe_after (level_after - s.delivered) s.delivered

  unfoldable pub visited : Station
  visited =
      record {
        members = s.members;
        own = s.own;
        level = level_after;
        safe = safe_after;
        delivered = s.delivered + length handed_after;
        aru = aru_after;
        last = suc t.number;
        resendable = some token_after;
        held = release safe_after held_after;
      }

  -- repeats, new messages, token
  unfoldable pub visit_writes : List Frame
  visit_writes = map message c.repeats ++ map message c.added ++ (token token_after ∷ [])
