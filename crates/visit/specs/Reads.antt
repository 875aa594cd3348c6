-- Every frame that a message's arrival or a visit writes or hands out reads, with the values meant. [document 01, A message arrives; A
-- token is accepted]
use Rattle.std.specs.Prelude.{ℕ, ◌≡◌, true, List, [], ◌∷◌, map}
use Rattle.frames.specs.Message.{content_of}
use Rattle.frames.specs.Token.{token_bytes}
use Rattle.frames.specs.Read.{read_of, a_message, a_token}
use Rattle.frames.specs.declared.message.Message.{Message}
use Rattle.record.specs.Held.{holds}
use Rattle.record.specs.Ring.{current, ids, token_passes}
use Rattle.record.specs.declared.log.Log.{Log}
use Rattle.record.specs.declared.Record.{Record}
use Rattle.visit.specs.Deliver.{message_with, entry_of, frame_of, joined, due}
use Rattle.visit.specs.Message.{log_with_message, handed_heard}
use Rattle.visit.specs.Visit.{Visit, log, own, repeats, new_numbers, log_now, safe', token', next_member, written, handed}
use Rattle.visit.specs.Acceptable.{Hearable, Acceptable}
use Rattle.visit.specs.Within.{frames_in}

-- it holds of each
abbrev pub Each : {A : Type 0} → (A → Type 0) → List A → Type 0
Each P [] = Unit {0}
Each P (x ∷ xs) = P x × Each P xs

-- the frame under a number reads as the message that is held there
abbrev pub HeldReads : Log → ℕ → Type 0
HeldReads l n =
    (holds l n ≡ true)
    × (read_of (frame_of l n) ≡ a_message (message_with l n (entry_of l n)))
    × (content_of (frame_of l n) ≡ (entry_of l n).content)

-- these bytes are the frames of messages that are held, one after another
pub record HandedReads (l : Log) (safe : ℕ) (bytes : List ℕ) : Type 0 where
  pub handed : Each (HeldReads l) (due l safe)
  pub within : frames_in bytes ≡ map (frame_of l) (due l safe)

-- what a message's arrival hands out
abbrev pub HeardReads : Type 0
HeardReads = (r : Record) (m : Message) (content : List ℕ)
    → Hearable r m content
    → HandedReads (log_with_message (current r) m content) (log_with_message (current r) m content).safe.0 (handed_heard r m content)

-- what a visit hands out and writes: its repeats were held before, its new messages are held now, and its token reads, passes 10 to 14
-- and is addressed to the next member
pub record VisitReads (v : Visit) : Type 0 where
  pub delivered : HandedReads (log_now v) (safe' v) (handed v)
  pub repeated : Each (HeldReads (log v)) (repeats v)
  pub sent : Each (HeldReads (log_now v)) (new_numbers v)
  pub forwarded : read_of (token_bytes (token' v)) ≡ a_token (token' v)
  pub passes : token_passes (log v).ring.0 (ids (log v)) (token_bytes (token' v)) ≡ true
  pub next : (token' v).addressee ≡ next_member (ids (log v)) (own v)
  -- the frames within its bytes for the cable are these
  pub within : frames_in (joined (written v)) ≡ written v

abbrev pub AcceptedReads : Type 0
AcceptedReads = (v : Visit) → Acceptable v → VisitReads v
