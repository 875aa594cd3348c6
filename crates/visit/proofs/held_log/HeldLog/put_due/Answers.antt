use mathlib.Core.Path.{ap}
use native.Mathlib.Omega.{arith}
use lib.ListN.{length}
use lib.Seq.{length-sets}
use Rattle.visit.specs.inner.Steps.{held_log}
use Rattle.visit.proofs.KeptLaws.{kept-short, kept_put, none-put}
use Rattle.visit.proofs.held_log.HeldLog.put_due.Goals as goal

pub returns-then-n-eq0 : goal.returns-then-n-eq0
returns-then-n-eq0 c = none-put (held_log c.args.self.now) c.args.self.now.log.now.delivered.0 c.args.n c.args.out.now c.if-n-eq0.true

pub put_message-at-requires : goal.put_message-at-requires
put_message-at-requires c =
    (c.requires.0.follows, omega (arith, kept-short _ _ _ c.requires.0, c.requires.3))

pub put_run-requires-2 : goal.put_run-requires-2
put_run-requires-2 c =
    let first = c.put_message-at.ensures in
    let same = simp length-sets at (ap length first.1) in (
      λ k above below. c.requires.1 k (omega arith) (omega arith),
      omega (arith, c.requires.2),
      omega (arith, kept-short _ _ _ c.requires.0, first.0, same, c.requires.3),
    )

pub returns : goal.returns
returns c =
    kept_put (held_log c.args.self.now) _ _ c.requires.0 c.args.self.now.log.now.delivered.0 c.args.n (omega (arith, c.if-n-eq0.false)) (omega (arith, c.if-m-delivered.false)) _ _ _ _ _
    c.put_message-at.ensures c.put_run-2.ensures
