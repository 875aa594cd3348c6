use Prim.Native.Nat.{ℕ}
use mathlib.Core.List.{List, []}
use mathlib.Core.Path.{◌≡◌}
use native.Mathlib.Omega.{arith}
use lib.ListN.{length}
use borrow.Author.Rules.{rules}
use Rattle.record.specs.Size.{most_members}
use Rattle.record.specs.inner.Head.{log_on}
use Rattle.record.specs.declared.log.Log.{Log}
use Rattle.record.proofs.WholeLaws.{turn-refused, turn-ranged, turn-whole-tested}
use Rattle.record.proofs.whole.turn_whole.Goals as goal
use Rattle.record.proofs.whole.turn_whole.Goals.{Start}

abbrev the-log : Start → List ℕ → Log
the-log c contents = log_on c.args.l contents

pub returns-then-not-turn_in_range : goal.returns-then-not-turn_in_range
returns-then-not-turn_in_range c = λ contents. turn-refused (the-log (goal.at.returns-then-not-turn_in_range c).Start contents) _ _ c.turn_in_range.ensures c.if-not-turn_in_range.true-raw

pub slice_bounds-resend_passes-end : goal.slice_bounds-resend_passes-end
slice_bounds-resend_passes-end c =
    let long : length c.args.l.members ≡ most_members = search rules in
    omega (arith, long, c.requires)

pub resend_passes-requires : goal.resend_passes-requires
resend_passes-requires c =
    (turn-ranged (the-log (goal.at.resend_passes-requires c).Start []) _ _ c.turn_in_range.ensures c.if-not-turn_in_range.false-raw).size

pub returns : goal.returns
returns c =
    λ contents. turn-whole-tested (the-log (goal.at.returns c).Start contents) _ _
    c.turn_in_range.ensures
    c.if-not-turn_in_range.false-raw _ _ _
    c.resend_passes.ensures
    c.arus_reached.ensures
    c.turn_unused_zero.ensures
