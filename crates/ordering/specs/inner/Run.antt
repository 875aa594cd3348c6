-- A ring of stations and a list of calls. A call that changes nothing seen here is `quiet`: every refusal, every post.
use Rattle.std.specs.Prelude.{ℕ, ◌<◌, ◌≡◌, cond, List, [], ◌∷◌, ◌⊎◌, get_or, eqb}
use Rattle.std.proofs.Math.Option.{Option, none, some}
use Rattle.ordering.specs.inner.Frame.{Message, Token, Frame, message, token}
use Rattle.ordering.specs.inner.Station.{Station, keeps, heard, handed_with}
use Rattle.ordering.specs.inner.Visit.{Choice, Allowed, token_after, handed_after, visited, visit_writes}
use Rattle.ordering.specs.inner.History.{Event, OnCable}

pub data Call : Type 0 where
  quiet : ℕ → Call
  hearing : ℕ → Message → Call
  visiting : ℕ → Token → Choice → Call
  resending : ℕ → Call

abbrev pub station_of : Call → ℕ
station_of (quiet p) = p
station_of (hearing p x) = p
station_of (visiting p t c) = p
station_of (resending p) = p

-- the station afterwards
abbrev pub moved : Station → Call → Station
moved s (quiet p) = s
moved s (hearing p x) = heard s x
moved s (visiting p t c) = visited s t c
moved s (resending p) = s

abbrev pub resend_writes : Option Token → List Frame
resend_writes none = []
resend_writes (some t) = token t ∷ []

-- what the call did
abbrev pub event : Station → Call → Event
event s (quiet p) = record { place = p; kept = none; forwarded = none; written = []; handed = [] }
event s (hearing p x) = record { place = p; kept = cond (keeps s x) (some x) none; forwarded = none; written = []; handed = handed_with s x }
event s (visiting p t c) = record { place = p; kept = none; forwarded = some (token_after s t c); written = visit_writes s t c; handed = handed_after s t c }
event s (resending p) = record { place = p; kept = none; forwarded = none; written = resend_writes s.resendable; handed = [] }

pub record Ring : Type 0 where
  pub at : ℕ → Station
  pub history : List Event

unfoldable pub update : ℕ → Station → (ℕ → Station) → ℕ → Station
update p s f q = cond (eqb q p) s (f q)

unfoldable pub step : Ring → Call → Ring
step r c =
    record {
      at = update (station_of c) (moved (r.at (station_of c)) c) r.at;
      history = event (r.at (station_of c)) c ∷ r.history;
    }

unfoldable pub run : Ring → List Call → Ring
run r [] = r
run r (c ∷ cs) = run (step r c) cs

-- ---- the start

abbrev pub fresh : List ℕ → ℕ → Station
fresh members p =
    record { members = members; own = get_or members p 0; level = 0; safe = 0; delivered = 0; aru = 0; last = 0; resendable = none; held = λ n. none }

abbrev pub start : List ℕ → Ring
start members = record { at = fresh members; history = [] }

-- the ring's first token; its text is any
abbrev pub founding_token : List ℕ → List ℕ → Token
founding_token members text =
    record { number = 1; addressee = get_or members 0 0; highest = 0; aru = 0; blocker = none; text = text }

-- ---- what may be called: at a member's place, with what is on the cable

abbrev pub Possible : ℕ → Token → Ring → Call → Type 0
Possible size first r (quiet p) = p < size
Possible size first r (hearing p x) = (p < size) × OnCable first r.history (message x)
Possible size first r (visiting p t c) =
    (p < size)
    × OnCable first r.history (token t)
    × (t.addressee ≡ (r.at p).own)
    × ((r.at p).last < t.number)
    × Allowed (r.at p) t c
Possible size first r (resending p) = p < size

abbrev pub AllPossible : ℕ → Token → Ring → List Call → Type 0
AllPossible size first r [] = Unit {0}
AllPossible size first r (c ∷ cs) = Possible size first r c × AllPossible size first (step r c) cs

-- ---- a token is accepted at a place in these calls

abbrev pub AcceptedIn : ℕ → Ring → List Call → Type 0
AcceptedIn p r [] = ⊥
AcceptedIn p r (c ∷ cs) =
    ((station_of c ≡ p) × ((t : Token) × ((event (r.at (station_of c)) c).forwarded ≡ some t)))
    ⊎ AcceptedIn p (step r c) cs
