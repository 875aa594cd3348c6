use mathlib.Core.Path.{refl}
use native.Mathlib.Omega.{arith}
use Rattle.visit.specs.inner.Steps.{visit_of}
use Rattle.visit.proofs.Forward.{added-waited, left-waiting}
use Rattle.visit.proofs.sent_visit.SentVisit.waits_after.Goals as goal

pub overflow_sub-result : goal.overflow_sub-result
overflow_sub-result c =
    omega (arith, added-waited (visit_of c.args.self.now.visit) c.args.self.now.visit.acceptable _ c.args.self.now.is)

pub returns : goal.returns
returns c = left-waiting (visit_of c.args.self.now.visit) c.args.self.now.visit.acceptable _ c.args.self.now.is _ refl
