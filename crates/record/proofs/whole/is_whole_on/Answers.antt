use Prim.Native.Nat.{◌<◌}
use native.Mathlib.Omega.{arith}
use borrow.Author.Rules.{rules}
use Rattle.record.specs.inner.Head.{record_on}
use Rattle.record.specs.declared.Record.{Record}
use Rattle.record.proofs.WholeLaws.{whole-postless, whole-refused, members-few, whole-tested}
use Rattle.record.proofs.whole.is_whole_on.Goals as goal
use Rattle.record.proofs.whole.is_whole_on.Goals.{Start}

abbrev the-record : Start → Record
the-record c = record_on c.args.h c.args.contents.now c.args.waiting.now

pub returns-then-not-posts_whole : goal.returns-then-not-posts_whole
returns-then-not-posts_whole c = whole-postless (the-record (goal.at.returns-then-not-posts_whole c).Start) _ c.posts_whole.ensures c.if-not-posts_whole.true-raw

pub returns-then-not-log_whole : goal.returns-then-not-log_whole
returns-then-not-log_whole c =
    whole-refused (the-record (goal.at.returns-then-not-log_whole c).Start) _ c.posts_whole.ensures _ c.log_whole.ensures c.if-not-log_whole.true-raw

pub turn_whole-requires : goal.turn_whole-requires
turn_whole-requires c =
    members-few (the-record (goal.at.turn_whole-requires c).Start) _ c.posts_whole.ensures _ c.log_whole.ensures c.if-not-log_whole.false-raw

pub returns : goal.returns
returns c =
    let own : c.args.h.own < 65536 = search rules in
    whole-tested (the-record (goal.at.returns c).Start) _ c.posts_whole.ensures _ c.log_whole.ensures
    c.if-not-posts_whole.false-raw c.if-not-log_whole.false-raw (omega (arith, own)) _ (c.turn_whole.ensures c.args.contents.now)
