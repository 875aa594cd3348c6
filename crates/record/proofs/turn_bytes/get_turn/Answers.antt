use Rattle.record.proofs.GetLaws.{turn-read}
use Rattle.record.proofs.turn_bytes.get_turn.Goals as goal

pub returns : goal.returns
returns c = turn-read _ _ _ _ _ _ _ _ _
    c.get.ensures
    c.get-2.ensures
    c.get-3.ensures
    c.get-4.ensures
    c.get-5.ensures
    c.get-6.ensures
    c.get-7.ensures
    c.get_slice.ensures
