use borrow.Author.Rules.{rules}
use Rattle.visit.specs.inner.Steps.{held_log}
use Rattle.visit.proofs.FrameLaws.{Writable}
use Rattle.visit.proofs.PutFrames.{putting-next, putting-goes, putting-ends, run-starts, run-next, run_ends}
use Rattle.visit.proofs.held_log.HeldLog.put_run.Goals as goal
use Rattle.visit.proofs.held_log.HeldLog.put_run.Goals.{Start}

writable : (c : Start) → Writable (held_log c.args.self.now)
writable c = record { log = c.args.self.now.good; header = c.args.self.now.follows }

pub loop-i-init : goal.loop-i-init
loop-i-init c = (search rules, run-starts _ _ _ _ _ c.requires.0 c.requires.2)

pub put_held-at-requires : goal.put_held-at-requires
put_held-at-requires c = putting-next c.loop-i.invariant.1 _ _ (run-next _ _ _ c.loop-i-test.true)

pub loop-i-preserved : goal.loop-i-preserved
loop-i-preserved c = (
  search rules,
  putting-goes c.loop-i.invariant.1 (writable (goal.at.loop-i-preserved c).Start) _ _ _ _ (run-next _ _ _ c.loop-i-test.true) c.put_held-at.ensures,
)

pub returns : goal.returns
returns c = putting-ends c.loop-i.invariant.1 (run_ends _ _ _ c.loop-i-test.false)
