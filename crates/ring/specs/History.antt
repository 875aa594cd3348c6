-- The words of demand 3, each a definition of its own. A history has the events, the newest first.
-- [document 01, The words of demand 3]
use Rattle.std.specs.Prelude.{ℕ, ◌+◌, ◌≡◌, Bool, true, false, ◌&&◌, ◌||◌, cond, List, [], ◌∷◌, ◌++◌, map, ◌⊎◌, eqb, Result, Ok, Err}
use Rattle.std.proofs.Math.Option.{Option, none, some}
use Rattle.frames.specs.Read.{read_of}
use Rattle.frames.specs.declared.header.Header.{Header}
use Rattle.frames.specs.declared.refusal.Refusal.{Refusal}
use Rattle.frames.specs.declared.reader.Frame.{Frame}
use Rattle.frames.specs.declared.reader.Frame.TheVariants.{Message as IsMessage, Token as IsToken}
use Rattle.station.specs.Answer.{outcome_of}
use Rattle.station.specs.Reply.{Reply}
use Rattle.visit.specs.Within.{frames_in}
use Rattle.station.specs.declared.answer.Answer.{Answer as Said}
use Rattle.station.specs.declared.refusal.Refusal.{Refusal as Refused}
use Rattle.ordering.specs.Lists.{Among, first_of}
use Rattle.ring.specs.Calls.{Call, post, arrival, resending, station_of}

-- a call and its reply
pub record Event : Type 0 where
  pub call : Call
  pub reply : Reply

abbrev pub place : Event → ℕ
place e = station_of e.call

-- ---- written for the cable: a frame within an answer's output counts, deliveries apart

abbrev pub written_by : Event → List (List ℕ)
written_by e = frames_in e.reply.frames

-- a frame and the place of the call that wrote it
pub record Written : Type 0 where
  pub frame : List ℕ
  pub place : ℕ

abbrev pub written_at : ℕ → List ℕ → Written
written_at place frame = record { frame = frame; place = place }

-- all that the calls wrote for the cable, the oldest first
unfoldable pub written_in : List Event → List Written
written_in [] = []
written_in (e ∷ earlier) = written_in earlier ++ map (written_at (place e)) (written_by e)

-- a frame is on the cable: the first token of a ring that was founded, or written by a call
abbrev pub OnCable : List (List ℕ) → List Event → List ℕ → Type 0
OnCable firsts history frame = Among frame firsts ⊎ ((place : ℕ) × Among (written_at place frame) (written_in history))

-- ---- reading n: the ring's first message frame with number n that a call wrote for the cable

abbrev pub same_ring : Header → Header → Bool
same_ring ring h = eqb h.ring.0 ring.ring.0 && eqb h.representative ring.representative

abbrev pub is_message_of : Header → ℕ → Result Frame Refusal → Bool
is_message_of ring n (Err why) = false
is_message_of ring n (Ok (IsMessage m)) = same_ring ring m.header && eqb m.number.0 n
is_message_of ring n (Ok (IsToken t)) = false

unfoldable pub is_numbered : Header → ℕ → List ℕ → Bool
is_numbered ring n frame = is_message_of ring n (read_of frame)

unfoldable pub reading : Header → List Event → ℕ → Option Written
reading ring history n = first_of (λ w. is_numbered ring n w.frame) (written_in history)

-- its service says whether it is safe
abbrev pub says_safe : Result Frame Refusal → Bool
says_safe (Err why) = false
says_safe (Ok (IsMessage m)) = eqb m.service 1
says_safe (Ok (IsToken t)) = false

unfoldable pub is_safe : List ℕ → Bool
is_safe frame = says_safe (read_of frame)

-- ---- reading n is received at a station: an arrival there answered 'kept' for its frame, or the call that first wrote it was made there

-- the outcome 'kept' is 3
abbrev pub said_kept : Result Said Refused → Bool
said_kept answer = eqb (outcome_of answer).outcome 3

-- the frame that was handed over
abbrev pub handed_over : Call → Option (List ℕ)
handed_over (post place service content) = none
handed_over (arrival place frame frames deliveries) = some frame
handed_over (resending place frames) = none

abbrev pub KeptAt : ℕ → List ℕ → List Event → Type 0
KeptAt p frame [] = ⊥
KeptAt p frame (e ∷ earlier) =
    ((place e ≡ p) × (handed_over e.call ≡ some frame) × (said_kept e.reply.answer ≡ true))
    ⊎ KeptAt p frame earlier

pub record Received (ring : Header) (history : List Event) (p n : ℕ) : Type 0 where
  pub first : Written
  pub is : reading ring history n ≡ some first
  pub how : KeptAt p first.frame history ⊎ (first.place ≡ p)

-- ---- a station's delivery list: the frames that its calls handed out, joined in the order of the calls

unfoldable pub delivery_list : ℕ → List Event → List ℕ
delivery_list p [] = []
delivery_list p (e ∷ earlier) = delivery_list p earlier ++ cond (eqb (place e) p) e.reply.deliveries []

-- the frames in it, and delivered there: in that list
abbrev pub handed_by : Event → List (List ℕ)
handed_by e = frames_in e.reply.deliveries

unfoldable pub deliveries : ℕ → List Event → List (List ℕ)
deliveries p [] = []
deliveries p (e ∷ earlier) = deliveries p earlier ++ cond (eqb (place e) p) (handed_by e) []

abbrev pub DeliveredAt : ℕ → List Event → List ℕ → Type 0
DeliveredAt p history frame = Among frame (deliveries p history)

-- ---- accepted token: an arrival of a token whose answer writes the token with the next number

-- what was read is a token with that number
abbrev pub is_token_of : ℕ → Result Frame Refusal → Bool
is_token_of n (Err why) = false
is_token_of n (Ok (IsMessage m)) = false
is_token_of n (Ok (IsToken t)) = eqb t.number.0 n

-- a token frame with that number
unfoldable pub is_token_numbered : ℕ → List ℕ → Bool
is_token_numbered n frame = is_token_of n (read_of frame)

unfoldable pub any_of : (List ℕ → Bool) → List (List ℕ) → Bool
any_of test [] = false
any_of test (f ∷ fs) = test f || any_of test fs

-- what was read is a token, and the next is among these frames
abbrev pub next_among : Result Frame Refusal → List (List ℕ) → Bool
next_among (Err why) frames = false
next_among (Ok (IsMessage m)) frames = false
next_among (Ok (IsToken t)) frames = any_of (is_token_numbered (t.number.0 + 1)) frames

abbrev pub accepts_token : Option (List ℕ) → List (List ℕ) → Bool
accepts_token none frames = false
accepts_token (some frame) frames = next_among (read_of frame) frames

unfoldable pub is_accepted : Event → Bool
is_accepted e = accepts_token (handed_over e.call) (written_by e)
