-- Resending: the remembered token is written out again, and the record stays as it is. [document 01, A token is accepted; Questions
-- at the door: 1, 2, 19]
use Rattle.std.specs.Prelude.{ℕ, [], leb, Ok}
use Rattle.record.specs.Turn.{may_resend, remembered}
use Rattle.record.specs.Whole.{whole}
use Rattle.record.specs.declared.Record.{Record}
use Rattle.station.specs.Reply.{Reply, asks}
use Rattle.visit.specs.Output.{most_frames}
use Rattle.station.specs.declared.refusal.Refusal.TheVariants.{NoRoom, NotWhole, NothingToResend}
use Rattle.station.specs.declared.answer.Answer.TheVariants.{Resent}

-- `room`: the length of the buffer for frames
unfoldable pub resent : Record → ℕ → Reply
resent r room =
    asks r (leb most_frames room) NoRoom
    (asks r (whole r) NotWhole
    (asks r (may_resend r.turn) NothingToResend
    (record { answer = Ok (Resent r.turn.size); rec = r; frames = remembered r.turn; deliveries = [] })))
