use Prim.Native.Nat.{ℕ}
use mathlib.Core.Path.{◌≡◌}
use native.Mathlib.Omega.{arith}
use lib.ListN.{length, get_or}
use borrow.Author.Rules.{rules}
use mir.Val.{Fits}
use mir.Syntax.{w16}
use Rattle.record.specs.Size.{most_held}
use Rattle.record.specs.inner.Head.{held_on}
use Rattle.record.proofs.RangeLaws.{held-tested}
use Rattle.record.proofs.range.held_in_range.Goals as goal

pub returns : goal.returns
returns c =
    let senders : length c.args.l.senders ≡ most_held = search rules in
    let services : length c.args.l.services ≡ most_held = search rules in
    let lengths : length c.args.l.lengths ≡ most_held = search rules in
    let fits : (i : ℕ) → Fits w16 (get_or c.args.l.senders i 0) = (λ i. search rules) in
    λ contents long. held-tested (held_on c.args.l contents) senders services lengths long (λ i. omega (arith, (fits i).fits)) _ _ c.all_within.ensures c.all_within-2.ensures
