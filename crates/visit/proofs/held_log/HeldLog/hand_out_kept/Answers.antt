use native.Mathlib.Omega.{arith}
use Rattle.visit.specs.inner.Steps.{held_log}
use Rattle.visit.proofs.DueCount.{due-fits, run-handed}
use Rattle.visit.proofs.held_log.HeldLog.hand_out_kept.Goals as goal

pub put_due-size-requires : goal.put_due-size-requires
put_due-size-requires c =
    let run = due-fits (held_log c.args.self.now) _ _ (c.due_count-count.ensures _) c.args.self.now.good in
    (c.requires.0, run.held, run.most, omega (arith, run.few, c.requires.1))

pub returns : goal.returns
returns c =
    let put = c.put_due-size.ensures in
    run-handed (held_log c.args.self.now) _ _ (c.due_count-count.ensures _) _ _ _
    (record { log = c.args.self.now.good; header = c.args.self.now.follows }) c.requires.1 put.0 put.1
