-- An answer in document 01's terms: the question that is answered 'no', what happened, the output counts in bytes, and the id in the
-- notice 'deaf'. [document 01, Questions at the door]
use Rattle.std.specs.Prelude.{ℕ, ◌≡◌, Bool, eqb, Result, Ok, Err, is_ok}
use Rattle.frames.specs.Layout.{shortest_token}
use Rattle.station.specs.Refusal.{refusal_number}
use Rattle.station.specs.declared.refusal.Refusal.{Refusal}
use Rattle.station.specs.declared.answer.Answer.{Answer}
use Rattle.station.specs.declared.answer.Answer.TheVariants.{Founded, Posted, Kept, Had, Ahead, Accepted, Resent}
use Rattle.station.specs.declared.answer.Outcome.{Outcome}

-- nothing is refused: what happened, the counts, and the id in the notice 'deaf'
abbrev pub happened : ℕ → ℕ → ℕ → ℕ → Outcome
happened outcome frames deliveries deaf = record { refusal = 0; outcome = outcome; frames = frames; deliveries = deliveries; deaf = deaf }

abbrev pub outcome_of : Result Answer Refusal → Outcome
outcome_of (Err why) = record { refusal = refusal_number why; outcome = 0; frames = 0; deliveries = 0; deaf = 0 }
outcome_of (Ok Founded) = happened 1 shortest_token 0 0
outcome_of (Ok Posted) = happened 2 0 0 0
outcome_of (Ok (Kept n)) = happened 3 0 n 0
outcome_of (Ok (Had n)) = happened 4 0 n 0
outcome_of (Ok (Ahead n)) = happened 5 0 n 0
outcome_of (Ok (Accepted frames deliveries deaf)) = happened 6 frames deliveries deaf
outcome_of (Ok (Resent n)) = happened 7 n 0 0

-- a call was taken where no question was answered 'no'
abbrev pub is_taken : Result Answer Refusal → Bool
is_taken a = is_ok a

-- the refusal's number says which: it is 0 where the call was taken, and nowhere else
abbrev pub TakenByNumber : Type 0
TakenByNumber = (a : Result Answer Refusal) → is_taken a ≡ eqb (outcome_of a).refusal 0

-- the outcome fixes the answer: no two answers have the same numbers
abbrev pub OutcomeFixes : Type 0
OutcomeFixes = (a b : Result Answer Refusal) → outcome_of a ≡ outcome_of b → a ≡ b
