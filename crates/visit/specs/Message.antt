-- A message arrives. [document 01, A message arrives; the paper's Figure 3, 'regular message received']
use Rattle.std.specs.Prelude.{ℕ, ◌+◌, Bool, ◌||◌, cond, List, length, replicate, leb, ltb}
use Rattle.frames.specs.Layout.{longest_token}
use Rattle.frames.specs.declared.message.Message.{Message}
use Rattle.record.specs.Size.{most_held}
use Rattle.record.specs.Parts.{with_parts}
use Rattle.record.specs.Held.{Entry, holds, stored}
use Rattle.record.specs.Ring.{current}
use Rattle.record.specs.declared.log.Log.{Log}
use Rattle.record.specs.declared.turn.Turn.{Turn}
use Rattle.record.specs.declared.Record.{Record}
use Rattle.visit.specs.Level.{raised}
use Rattle.visit.specs.Deliver.{handed_out, delivered}
use Rattle.visit.specs.declared.hearing.Heard.{Heard}
use Rattle.visit.specs.declared.hearing.Hearing.TheVariants.{WasHad, IsAhead, IsKept}

-- at or below the safe mark or already held: had
unfoldable pub is_had : Log → ℕ → Bool
is_had l n = leb n l.safe.0 || holds l n

-- above safe mark + 32: ahead
abbrev pub is_ahead : Log → ℕ → Bool
is_ahead l n = ltb (l.safe.0 + most_held) n

-- had, or ahead, or kept: whichever comes first
abbrev pub heard_as : {A : Type 0} → Log → ℕ → A → A → A → A
heard_as l n had ahead kept = cond (is_had l n) had (cond (is_ahead l n) ahead kept)

-- the message, its number apart
abbrev pub entry_in : Message → List ℕ → Entry
entry_in m content = record { sender = m.sender; service = m.service; content = content }

-- of a message that was had the first copy stays; one that is ahead is not held; one that is kept is, and the level rises as far as it can
unfoldable pub log_with_message : Log → Message → List ℕ → Log
log_with_message l m content = heard_as l m.number.0 l l (raised (stored l m.number.0 (entry_in m content)))

-- the leave to resend has ended: the token is zero
unfoldable pub resend_ended : Turn → Turn
resend_ended t =
    record {
      aru = t.aru;
      earlier = t.earlier;
      number = t.number;
      broadcast = t.broadcast;
      stall = t.stall;
      waited = t.waited;
      size = 0;
      token = replicate longest_token 0;
    }

-- all three end the leave to resend, and deliver: the record afterwards
abbrev pub rec_heard : Record → Message → List ℕ → Record
rec_heard r m content =
    let l = log_with_message (current r) m content in
    with_parts r (delivered l l.safe.0) (resend_ended r.turn) r.posts

-- and what is handed out
abbrev pub handed_heard : Record → Message → List ℕ → List ℕ
handed_heard r m content = let l = log_with_message (current r) m content in handed_out l l.safe.0

-- had, ahead or kept, and how many bytes are delivered
abbrev pub heard_of : Record → Message → List ℕ → Heard
heard_of r m content = record { how = heard_as (current r) m.number.0 WasHad IsAhead IsKept; size = length (handed_heard r m content) }
