-- Writing a frame into a lent buffer: question 12, then 1 with the frame's own size. [document 01, Questions at the door]
use Rattle.std.specs.Prelude.{ℕ, Bool, cond, List, ◌++◌, length, drop, leb, Result, Ok, Err}
use Rattle.frames.specs.Layout.{most_requests}
use Rattle.frames.specs.Refusal.{frame_refusal_number}
use Rattle.frames.specs.Message.{message_follows, message_bytes}
use Rattle.frames.specs.Token.{token_follows, token_bytes}
use Rattle.frames.specs.declared.refusal.Refusal.{Refusal}
use Rattle.frames.specs.declared.message.Message.{Message}
use Rattle.frames.specs.declared.token.Token.{Token}

-- an answer in document 01's terms: the question that is answered 'no', or 0, and how many bytes were written
pub record WriteOutcome : Type 0 where
  pub number : ℕ
  pub count : ℕ

abbrev pub write_outcome_of : Result ℕ Refusal → WriteOutcome
write_outcome_of (Ok n) = record { number = 0; count = n }
write_outcome_of (Err why) = record { number = frame_refusal_number why; count = 0 }

-- the outcome, and the whole buffer afterwards
pub record Writing : Type 0 where
  pub outcome : WriteOutcome
  pub out : List ℕ

-- the frame's bytes, followed by what stood after them; a refusal leaves every byte as it was
unfoldable pub writing_of : Bool → List ℕ → List ℕ → Writing
writing_of follows frame out =
    cond follows
    (cond (leb (length frame) (length out))
    (record { outcome = record { number = 0; count = length frame }; out = frame ++ drop (length frame) out })
    (record { outcome = record { number = 1; count = 0 }; out = out }))
    (record { outcome = record { number = 12; count = 0 }; out = out })

abbrev pub message_written : Message → List ℕ → List ℕ → Writing
message_written m content out = writing_of (message_follows m content) (message_bytes m content) out

abbrev pub token_written : Token → List ℕ → Writing
token_written t out = writing_of (token_follows t) (token_bytes t) out

-- ---- a frame whose values are known to follow the layout: 12 is not asked again

-- the frame's bytes, followed by what stood after them, where there is room; else every byte as it was
unfoldable pub frame_put : List ℕ → List ℕ → List ℕ
frame_put frame out = cond (leb (length frame) (length out)) (frame ++ drop (length frame) out) out

abbrev pub message_put : Message → List ℕ → List ℕ → List ℕ
message_put m content out = frame_put (message_bytes m content) out

-- there are 16 places for requests, and no frame for a count of more
unfoldable pub token_put : Token → List ℕ → List ℕ
token_put t out = cond (leb t.count most_requests) (frame_put (token_bytes t) out) out
