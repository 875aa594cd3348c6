-- Demand 1 over C: whatever is handed to a station, a refusal alters no lent byte. That each call answers whatever bytes and numbers it is
-- handed is said by the contracts themselves: none has a `requires`. [document 01, Questions at the door]
use Rattle.std.specs.Prelude.{ℕ, ◌≡◌, List}
use Rattle.station.specs.Answer.{outcome_of}
use Rattle.station.specs.Reply.{Reply, Does}
use Rattle.station.specs.Over.{found_over, post_over, arrive_over, resend_over}
use Rattle.station.specs.declared.answer.Outcome.{Outcome}

-- a call does what this reply says: where its refusal isn't 0, the station's bytes and both buffers are as they were, and every count is 0
abbrev pub Unaltered : Reply → Type 0
Unaltered reply = (o : Outcome) (s s' f f' d d' : List ℕ)
    → Does outcome_of reply o s s' f f' d d'
    → (o.refusal ≡ 0 → ⊥)
    → (s' ≡ s) × (f' ≡ f) × (d' ≡ d) × (o.outcome ≡ 0) × (o.frames ≡ 0) × (o.deliveries ≡ 0) × (o.deaf ≡ 0)

-- of every call
pub record Demand₁ : Type 0 where
  pub founding : (s members : List ℕ) (own ring room : ℕ) → Unaltered (found_over s members own ring room)
  pub posting : (s : List ℕ) (service : ℕ) (content : List ℕ) → Unaltered (post_over s service content)
  pub arrival : (s frame : List ℕ) (frames deliveries : ℕ) → Unaltered (arrive_over s frame frames deliveries)
  pub resending : (s : List ℕ) (room : ℕ) → Unaltered (resend_over s room)
