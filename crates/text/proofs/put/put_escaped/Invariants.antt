use Rattle.std.proofs.Common.{◌≡◌, take}
use Rattle.text.specs.Text.{filled, put, escaped_byte, each}
use Rattle.text.proofs.put.put_escaped.Given as goal

abbrev pub invariant-loop-b : goal.invariant-loop-b
invariant-loop-b l = filled l.at l.out ≡ put (each escaped_byte (take l.b-index l.bytes)) (filled l.initial.at l.initial.out)
