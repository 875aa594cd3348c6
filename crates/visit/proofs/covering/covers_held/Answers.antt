use mathlib.Core.Bool.{not, ◌||◌}
use lib.Dec.{ltb}
use borrow.Author.Rules.{rules}
use Rattle.record.specs.inner.Head.{log_on}
use Rattle.visit.proofs.CoversLaws.{covers_below, covers-by-place}
use Rattle.visit.proofs.covering.covers_held.Goals as goal

pub returns-then-highest-l : goal.returns-then-highest-l
returns-then-highest-l c = λ contents. covers_below _ _ c.if-highest-l.true

pub returns : goal.returns
returns c =
    let covered = c.saturating_sub-covered.result in
    let good = c.every_place.ensures (λ before used. ltb before covered || not used) (λ before used r e. search rules) in
    λ contents. covers-by-place (log_on c.args.l.now contents) c.args.highest.0 _ c.if-highest-l.false
    (rw c.saturating_sub-covered.ensures at good)
