use mathlib.Core.Path.{◌∙◌}
use native.Mathlib.Nat.{zero-add}
use native.Mathlib.Omega.{arith}
use Rattle.visit.specs.inner.Steps.{held_log}
use Rattle.visit.proofs.DueCount.{due-fits, run-handed}
use Rattle.visit.proofs.held_log.HeldLog.hand_out.Goals as goal

pub put_run-size-requires : goal.put_run-size-requires
put_run-size-requires c =
    let run = due-fits (held_log c.args.self.now) _ _ (c.due_count-count.ensures _) c.args.self.now.good in
    (run.held, run.most, omega (arith, run.few, c.requires))

pub returns : goal.returns
returns c =
    let put = c.put_run-size.ensures in
    run-handed (held_log c.args.self.now) _ _ (c.due_count-count.ensures _) _ _ _
    (record { log = c.args.self.now.good; header = c.args.self.now.follows }) c.requires (put.0 ∙ zero-add _) put.1
