use mathlib.Core.Path.{◌≡◌}
use lib.ListN.{length}
use borrow.Author.Rules.{rules}
use borrow.Author.Tests.{leb-true, not-true, not-false}
use Rattle.record.specs.Size.{most_members}
use Rattle.record.specs.inner.Head.{log_on}
use Rattle.record.proofs.RangeLaws.{safe-refused, log-tested}
use Rattle.record.proofs.range.log_in_range.Goals as goal

pub returns-then-not-safe : goal.returns-then-not-safe
returns-then-not-safe c = λ contents _. safe-refused (log_on c.args.l contents) (not-true _ c.if-not-safe.true-raw)

pub numbers_in_range-requires : goal.numbers_in_range-requires
numbers_in_range-requires c = leb-true _ _ (not-false _ c.if-not-safe.false-raw)

pub returns : goal.returns
returns c =
    let members : length c.args.l.members ≡ most_members = search rules in
    λ contents long. log-tested (log_on c.args.l contents) members (not-false _ c.if-not-safe.false-raw) _ _ (c.held_in_range.ensures contents long) (c.numbers_in_range.ensures contents)
