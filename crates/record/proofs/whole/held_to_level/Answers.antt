use mathlib.Core.Bool.{◌||◌}
use lib.Dec.{leb}
use borrow.Author.Rules.{rules}
use Rattle.record.specs.inner.Head.{log_on}
use Rattle.record.proofs.PlaceLaws.{level-too-high, level-by-place}
use Rattle.record.proofs.whole.held_to_level.Goals as goal

pub returns-then-many : goal.returns-then-many
returns-then-many c = λ contents. level-too-high (log_on c.args.l contents) (rw c.saturating_sub-many.ensures at c.if-many.true)

pub returns : goal.returns
returns c =
    let many = c.saturating_sub-many.result in
    let good = c.every_place.ensures (λ before used. leb many before || used) (λ before used r e. search rules) in
    λ contents. level-by-place (log_on c.args.l contents) _ (rw c.saturating_sub-many.ensures at c.if-many.false)
    (rw c.saturating_sub-many.ensures at good)
