-- Busy posts get their turn: of any record, whole or not, any bytes and buffers of any length, where a token is accepted while a post waits.
-- [document 02, Job 1]
use Rattle.std.specs.Prelude.{ℕ, ◌+◌, ◌-◌, ◌<◌, ◌≤◌, ◌≡◌, List, length, Ok}
use Rattle.frames.specs.Number.{most_number}
use Rattle.frames.specs.Read.{read_of, a_token}
use Rattle.frames.specs.declared.token.Token.{Token}
use Rattle.record.specs.Size.{most_held}
use Rattle.record.specs.declared.Record.{Record}
use Rattle.visit.specs.Visit.{Visit, log, waits, round_allowance, others_backlog, share, repeats}
use Rattle.visit.specs.Acceptable.{visit}
use Rattle.station.specs.Reply.{Reply}
use Rattle.station.specs.Arrive.{arrived}
use Rattle.station.specs.declared.answer.Answer.TheVariants.{Accepted}

-- the new messages: a post that is broadcast waits no longer
abbrev pub newly_sent : Record → Reply → ℕ
newly_sent r reply = r.posts.count - reply.rec.posts.count

-- document 01's own limits allow a new message: the round's, safe mark + 32, 2,000,000,000
pub record OneAllowed (v : Visit) : Type 0 where
  pub round : 0 < round_allowance v
  pub window : v.token.highest.0 < (log v).safe.0 + most_held
  pub numbers : v.token.highest.0 < most_number

-- new messages are at most the share less the repeats; and in a visit without repeats at least one goes out where those limits allow one
pub record FairlySent (v : Visit) (n : ℕ) : Type 0 where
  pub most : n ≤ share (others_backlog v) (waits v) - length (repeats v)
  pub least : length (repeats v) ≡ 0 → OneAllowed v → 1 ≤ n

-- such an arrival is of a token
abbrev pub ArrivedFair : Type 0
ArrivedFair = (r : Record) (frame : List ℕ) (frames deliveries written handed deaf : ℕ)
    → (arrived r frame frames deliveries).answer ≡ Ok (Accepted written handed deaf)
    → 0 < r.posts.count
    → (t : Token) × (read_of frame ≡ a_token t) × FairlySent (visit r t) (newly_sent r (arrived r frame frames deliveries))
