use Prim.Native.Nat.{◌-◌}
use native.Mathlib.Omega.{arith}
use lib.Seq.{length-take-le}
use Rattle.record.specs.inner.Head.{log_on}
use Rattle.record.specs.declared.log.Log.{Log}
use Rattle.record.proofs.RangeFacts.{LogRange}
use Rattle.record.proofs.WholeLaws.{log-refused, log-ranged, log-whole-tested}
use Rattle.record.proofs.whole.log_whole.Goals as goal
use Rattle.record.proofs.whole.log_whole.Goals.{Else-not-log_in_range, Start}

abbrev the-log : Start → Log
the-log c = log_on c.args.l c.args.contents.now

pub returns-then-not-log_in_range : goal.returns-then-not-log_in_range
returns-then-not-log_in_range c = log-refused c.args.own (the-log (goal.at.returns-then-not-log_in_range c).Start) _ (c.log_in_range.ensures c.args.contents.now c.told-contents) c.if-not-log_in_range.true-raw

range : (c : Else-not-log_in_range) → LogRange (log_on c.args.l c.args.contents.now)
range c = log-ranged c.args.own (log_on c.args.l c.args.contents.now) _ (c.log_in_range.ensures c.args.contents.now c.told-contents) c.if-not-log_in_range.false-raw

pub slice_bounds-ids-end : goal.slice_bounds-ids-end
slice_bounds-ids-end c =
    let r = range (goal.at.slice_bounds-ids-end c).Else-not-log_in_range in
    omega (arith, r.members-long, r.count)

pub senders_are_members-requires : goal.senders_are_members-requires
senders_are_members-requires c =
    let r = range (goal.at.senders_are_members-requires c).Else-not-log_in_range in
    let l = c.args.l in
    omega (arith, length-take-le (l.count - 0) l.members (omega (arith, r.members-long, r.count)), r.count)

pub next_not_held-requires : goal.next_not_held-requires
next_not_held-requires c =
    let r = range (goal.at.next_not_held-requires c).Else-not-log_in_range in
    (r.safe, r.level)

pub returns : goal.returns
returns c =
    log-whole-tested c.args.own (the-log (goal.at.returns c).Start) _
    (c.log_in_range.ensures c.args.contents.now c.told-contents)
    c.if-not-log_in_range.false-raw _ _ _ _ _ _
    c.senders_are_members.ensures
    c.foundable_by.ensures
    (c.marks_in_order.ensures c.args.contents.now)
    (c.held_to_level.ensures c.args.contents.now)
    (c.next_not_held.ensures c.args.contents.now)
    c.log_unused_zero.ensures
