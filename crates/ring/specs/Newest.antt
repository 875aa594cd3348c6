-- The newest token is never refused by its addressee, with buffers as large as question 1 asks and until the numbers run out: the ring
-- doesn't come to a stop by itself. [document 01, Questions at the door: 1, 2, 10 to 18]
use Rattle.std.specs.Prelude.{ℕ, ◌<◌, ◌≤◌, ◌≡◌, true, cond, List, [], ◌∷◌, length, get_or}
use Rattle.frames.specs.Number.{most_number}
use Rattle.frames.specs.Read.{read_of, a_token}
use Rattle.frames.specs.declared.token.Token.{Token}
use Rattle.visit.specs.Output.{most_frames, most_deliveries}
use Rattle.ring.specs.Calls.{Call, arrival}
use Rattle.ring.specs.History.{Event, written_by, is_accepted}
use Rattle.ring.specs.Run.{first_frame, Account, event_after}
use Rattle.ring.specs.Demand.{EveryRun}

-- the last of the frames
abbrev pub last_of : List ℕ → List (List ℕ) → List ℕ
last_of frame [] = frame
last_of frame (f ∷ fs) = last_of f fs

-- the token that was written last by a call that accepted one; before any, founding's
unfoldable pub newest : List ℕ → List Event → List ℕ
newest first [] = first
newest first (e ∷ earlier) = cond (is_accepted e) (last_of [] (written_by e)) (newest first earlier)

module _ (members : List ℕ) (ring : ℕ) (a : Account) where
  abbrev pub newest_after : List Call → List ℕ
  newest_after calls = newest (first_frame members ring) (a.history calls)

  -- it reads as a token, addressed to a member, which accepts it whenever the buffers are large enough and its number is not the last
  pub record NewestAccepted (calls : List Call) : Type 0 where
    pub place : ℕ
    pub here : place < length members
    pub token : Token
    pub reads : read_of (newest_after calls) ≡ a_token token
    pub addressed : token.addressee ≡ get_or members place 0
    pub accepts : (frames deliveries : List ℕ)
        → most_frames ≤ length frames
        → most_deliveries ≤ length deliveries
        → token.number.0 < most_number
        → is_accepted (event_after a calls (arrival place (newest_after calls) frames deliveries)) ≡ true

abbrev pub NeverRefused : Type 0
NeverRefused = EveryRun NewestAccepted
