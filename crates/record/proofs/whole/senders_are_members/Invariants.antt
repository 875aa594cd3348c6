use mathlib.Core.Path.{◌≡◌}
use lib.ListN.{length, drop}
use Rattle.record.specs.Size.{most_held}
use Rattle.record.proofs.StrikeLaws.{struck_all}
use Rattle.record.proofs.whole.senders_are_members.Given as goal

abbrev pub invariant-loop-id : goal.invariant-loop-id
invariant-loop-id l = (length l.left ≡ most_held) × (struck_all (drop l.id-index l.id-items) l.left ≡ struck_all l.id-items l.initial.left)
