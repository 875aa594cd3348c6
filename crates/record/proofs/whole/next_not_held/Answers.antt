use native.Mathlib.Numerals.{add-one}
use Rattle.record.specs.Held.{holds}
use Rattle.record.specs.Whole.{next_not_held}
use Rattle.record.proofs.whole.next_not_held.Goals as goal

pub returns : goal.returns
unfolding next_not_held holds
returns c = λ contents. rw (rw add-one at c.is_held.ensures)
