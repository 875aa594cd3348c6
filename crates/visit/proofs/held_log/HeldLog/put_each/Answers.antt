use lib.ListN.{drop_of_length-le}
use borrow.Author.Rules.{rules}
use Rattle.visit.specs.inner.Steps.{held_log}
use Rattle.visit.proofs.FrameLaws.{Writable}
use Rattle.visit.proofs.PutFrames.{putting-goes, putting-ends, from_next}
use Rattle.visit.proofs.held_log.HeldLog.put_each.Goals as goal
use Rattle.visit.proofs.held_log.HeldLog.put_each.Goals.{Start}

writable : (c : Start) → Writable (held_log c.args.self.now)
writable c = record { log = c.args.self.now.good; header = c.args.self.now.follows }

pub loop-n-preserved : goal.loop-n-preserved
loop-n-preserved c = (
  search rules,
  putting-goes c.loop-n.invariant.1 (writable (goal.at.loop-n-preserved c).Start) _ _ _ _ (from_next _ _ c.loop-n-test.true) c.put_held-at.ensures,
)

pub returns : goal.returns
returns c = putting-ends c.loop-n.invariant.1 (drop_of_length-le _ c.loop-n-test.false)
