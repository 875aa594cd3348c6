-- The form of a row, and sample stations and tokens. [document 01, Trials]
use Rattle.std.specs.Prelude.{ℕ, zero, suc, ◌-◌, Bool, true, ◌&&◌, cond, List, [], ◌∷◌, ◌++◌, length, set, replicate, eqb, Option}
use Rattle.frames.specs.Layout.{most_requests}
use Rattle.frames.specs.trials.Trials.{same, header}
use Rattle.frames.specs.Token.{numbered}
use Rattle.frames.specs.declared.token.Token.{Token}
use Rattle.record.specs.Held.{place_of, log_with}
use Rattle.record.specs.Fresh.{fresh_held, fresh_turn, fresh}
use Rattle.record.specs.Parts.{with_parts}
use Rattle.record.specs.declared.log.Held.{Held}
use Rattle.record.specs.declared.turn.Turn.{Turn}
use Rattle.record.specs.declared.Record.{Record}

-- ---- a row: what is given, and what is wanted

pub record Trial : Type 0 where
  pub gives : ℕ
  pub wanted : ℕ

abbrev pub row : ℕ → ℕ → Trial
row gives wanted = record { gives = gives; wanted = wanted }

-- 1 where the test holds, else 0
abbrev pub yes : Bool → ℕ
yes test = cond test 1 0

-- of several numbers, or of bytes
abbrev pub row_of : List ℕ → List ℕ → Trial
row_of gives wanted = row (yes (same gives wanted)) 1

unfoldable pub all_pass : List Trial → Bool
all_pass [] = true
all_pass (t ∷ ts) = eqb t.gives t.wanted && all_pass ts

-- ---- stations: members 3, 7, 9; own id 7; ring 4

abbrev pub members : List ℕ
members = 3 ∷ 7 ∷ 9 ∷ []

abbrev pub station : Record
station = fresh members 7 4

-- messages 1 to n are of sender 3
unfoldable pub senders_to : ℕ → List ℕ
senders_to zero = fresh_held.senders
senders_to (suc n) = set (senders_to n) (place_of (suc n)) 3

-- they are agreed, and without content
abbrev pub held_to : ℕ → Held
held_to n = record { senders = senders_to n; services = fresh_held.services; lengths = fresh_held.lengths; contents = fresh_held.contents }

-- all up to the level held, otherwise fresh but for the turn
abbrev pub reached_with : ℕ → Turn → Record
reached_with level turn = with_parts station (log_with station.log (record { 0 = level }) (record { 0 = 0 }) (record { 0 = 0 }) (held_to level)) turn station.posts

abbrev pub reached_to : ℕ → Record
reached_to level = reached_with level fresh_turn

-- all up to n safe and delivered, nothing held, otherwise fresh
abbrev pub safe_to : ℕ → Record
safe_to n = with_parts station (log_with station.log (record { 0 = n }) (record { 0 = n }) (record { 0 = n }) fresh_held) fresh_turn station.posts

-- a turn without leave: the aru forwarded last, the last count of broadcasts, the stall count, the own part of the backlog
abbrev pub turn_waited : ℕ → ℕ → ℕ → ℕ → Turn
turn_waited aru broadcast stall waited =
    record {
      aru = record { 0 = aru };
      earlier = record { 0 = 0 };
      number = record { 0 = 0 };
      broadcast = broadcast;
      stall = stall;
      waited = waited;
      size = 0;
      token = fresh_turn.token;
    }

abbrev pub turn_with : ℕ → ℕ → ℕ → Turn
turn_with aru broadcast stall = turn_waited aru broadcast stall 0

-- all up to the level held
abbrev pub level7 : Record
level7 = reached_to 7

abbrev pub level10 : Record
level10 = reached_to 10

-- ---- tokens: ring number, addressee, token number, highest, aru, blocker, round count, backlog, requests

abbrev pub token_carrying : ℕ → ℕ → ℕ → ℕ → ℕ → Option ℕ → ℕ → ℕ → List ℕ → Token
token_carrying ring addressee n highest aru blocker round backlog requests =
    record {
      header = header ring;
      addressee = addressee;
      number = record { 0 = n };
      highest = record { 0 = highest };
      aru = record { 0 = aru };
      blocker = blocker;
      round = round;
      backlog = backlog;
      count = length requests;
      requests = numbered (requests ++ replicate (most_requests - length requests) 0);
    }

-- with backlog 0
abbrev pub token_with : ℕ → ℕ → ℕ → ℕ → ℕ → Option ℕ → ℕ → List ℕ → Token
token_with ring addressee n highest aru blocker round requests = token_carrying ring addressee n highest aru blocker round 0 requests
