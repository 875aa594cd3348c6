-- A ring of stations founded on one list and ring number, and a list of calls. [document 01, The words of demand 3]
use Rattle.std.specs.Prelude.{ℕ, ◌<◌, ◌≡◌, Bool, true, ◌&&◌, cond, List, [], ◌∷◌, length, get_or, eqb}
use Rattle.frames.specs.Layout.{shortest_token}
use Rattle.frames.specs.declared.header.Header.{Header}
use Rattle.record.specs.Lent.{no_record}
use Rattle.record.specs.Members.{representative, members_counted, ids_follow, ring_in_range}
use Rattle.record.specs.Whole.{whole}
use Rattle.record.specs.declared.Record.{Record}
use Rattle.station.specs.Reply.{Reply}
use Rattle.station.specs.Found.{founded_on}
use Rattle.ring.specs.Calls.{Call, station_of, reply_to}
use Rattle.ring.specs.History.{Event}

-- ---- founding: one record for each member, and the ring's first token on the cable

-- a list of members and a ring number on which a ring can be founded: questions 3, 4 and 6; each member then founds its own station
unfoldable pub ring_foundable : List ℕ → ℕ → Bool
ring_foundable members ring = members_counted members && ids_follow members && ring_in_range ring

-- founding at a place
abbrev pub founded_at : List ℕ → ℕ → ℕ → Reply
founded_at members ring p = founded_on no_record shortest_token members (get_or members p 0) ring

-- the records that founding left, by place
abbrev pub records : List ℕ → ℕ → ℕ → Record
records members ring p = (founded_at members ring p).rec

-- the ring's first token
abbrev pub first_frame : List ℕ → ℕ → List ℕ
first_frame members ring = (founded_at members ring 0).frames

-- every founding writes it: no own id stands in it
abbrev pub OneFirst : Type 0
OneFirst = (members : List ℕ) (ring : ℕ)
    → ring_foundable members ring ≡ true
    → (p : ℕ) → p < length members → (founded_at members ring p).frames ≡ first_frame members ring

-- the ring: its number and representative
abbrev pub ring_of : List ℕ → ℕ → Header
ring_of members ring = record { ring = record { 0 = ring }; representative = representative members }

-- ---- a list of calls, whatever represents a station

-- what a call at a station replies, what it leaves, and whether the record is whole
pub record Representation (S : Type 0) : Type 0 where
  pub reply_of : S → Call → Reply
  pub leaves : S → Call → S
  pub is_whole : S → Bool

-- the stations by place, and what was called
pub record Ring (S : Type 0) : Type 0 where
  pub at : ℕ → S
  pub history : List Event

-- before any call
abbrev pub start : {S : Type 0} → (ℕ → S) → Ring S
start founded = record { at = founded; history = [] }

-- one station changes; the others stay as they are
unfoldable pub update : {S : Type 0} → ℕ → S → (ℕ → S) → ℕ → S
update p s at q = cond (eqb q p) s (at q)

module _ {S : Type 0} (stations : Representation S) where
  -- a call at its station
  unfoldable pub step : Ring S → Call → Ring S
  step r c =
      record {
        at = update (station_of c) (stations.leaves (r.at (station_of c)) c) r.at;
        history = record { call = c; reply = stations.reply_of (r.at (station_of c)) c } ∷ r.history;
      }

  -- the ring after a list of calls
  unfoldable pub run : Ring S → List Call → Ring S
  run r [] = r
  run r (c ∷ cs) = run (step r c) cs

-- ---- what calls come to

-- the history after a list of them, the reply to one more, and whether the record at a place is whole then
pub record Account : Type 0 where
  pub history : List Call → List Event
  pub reply : List Call → Call → Reply
  pub is_whole : List Call → ℕ → Bool

-- from those stations on
abbrev pub account_of : {S : Type 0} → Representation S → (ℕ → S) → Account
account_of stations founded =
    record {
      history = λ calls. (run stations (start founded) calls).history;
      reply = λ before c. stations.reply_of ((run stations (start founded) before).at (station_of c)) c;
      is_whole = λ calls p. stations.is_whole ((run stations (start founded) calls).at p);
    }

-- one call more
abbrev pub event_after : Account → List Call → Call → Event
event_after a before c = record { call = c; reply = a.reply before c }

-- ---- stations whose records are structs, from the records that founding left

abbrev pub structs : Representation Record
structs = record { reply_of = reply_to; leaves = λ r c. (reply_to r c).rec; is_whole = whole }

abbrev pub over_structs : List ℕ → ℕ → Account
over_structs members ring = account_of structs (records members ring)
