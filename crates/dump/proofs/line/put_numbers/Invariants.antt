use Rattle.std.proofs.Common.{◌≡◌, take}
use Rattle.text.specs.Text.{put, each}
use Rattle.dump.specs.Line.{following}
use Rattle.dump.proofs.line.put_numbers.Given as goal

abbrev pub invariant-loop-number : goal.invariant-loop-number
invariant-loop-number l = l.out ≡ put (each following (take l.number-index l.rest)) l.initial.out
