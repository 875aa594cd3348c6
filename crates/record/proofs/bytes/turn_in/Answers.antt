use Rattle.std.proofs.lemmas.List.{take_rest}
use Rattle.record.specs.Bytes.{record_of}
use Rattle.record.proofs.bytes.turn_in.Goals as goal

pub returns : goal.returns
unfolding record_of
returns c = rw take_rest at c.get_turn.ensures
