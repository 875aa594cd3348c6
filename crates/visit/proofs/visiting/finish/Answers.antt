use mathlib.Core.Path.{◌≡◌, ◌∙◌}
use native.Mathlib.Omega.{arith}
use lib.ListN.{length}
use Rattle.record.specs.inner.Head.{record_in}
use Rattle.record.specs.Layout.{record_size}
use Rattle.visit.proofs.DueCount.{due-fits}
use Rattle.visit.proofs.LeftLaws.{stored-left}
use Rattle.visit.proofs.visiting.finish.Goals as goal

pub returns : goal.returns
returns c =
    let hands = rw (c.new.ensures.0, c.new.ensures.1, c.contents_in.ensures) at c.hand_out-handed.ensures in
    let long : length c.take_oldest_in-posts.new.s ≡ record_size = c.take_oldest_in-posts.auto.s ∙ c.let_go_in-log.auto.s ∙ c.requires.0 in (
      hands.1,
      stored-left c.args.h c.args.s.now c.let_go_in-log.new.s c.take_oldest_in-posts.new.s _ _ _ _ _ _ long hands.0 c.let_go_in-log.ensures c.take_oldest_in-posts.ensures c.put_head.ensures,
      hands.2,
    )

pub overflow_add-delivered : goal.overflow_add-delivered
overflow_add-delivered c =
    let hands = rw (c.new.ensures.0, c.new.ensures.1, c.contents_in.ensures) at c.hand_out-handed.ensures in
    omega (arith, (due-fits (record_in c.args.h c.args.s.now).log _ _ hands.0 c.requires.1).most)
