use mathlib.Core.Path.{ap}
use native.Mathlib.Omega.{arith}
use Rattle.visit.specs.declared.broadcasting.Sent.{Sent}
use Rattle.visit.specs.Visit.{Visit}
use Rattle.visit.specs.inner.Steps.{visit_of}
use Rattle.visit.proofs.VisitFacts.{few-left}
use Rattle.visit.proofs.Forward.{sent-fits, size_fits, turn-made}
use Rattle.visit.proofs.sent_visit.SentVisit.turn_after.Goals as goal
use Rattle.visit.proofs.sent_visit.SentVisit.turn_after.Goals.{Start}

abbrev the-visit : Start → Visit
the-visit c = visit_of c.args.self.now.visit

pub returns : goal.returns
returns c =
    turn-made (the-visit (goal.at.returns c).Start) c.args.self.now.visit.acceptable _ c.requires.0 _ _ _ _ _ c.put_token.ensures c.token_size.ensures (ap (λ (b : Sent). b.count) c.args.self.now.is) c.requires.1 c.waits_after.ensures

pub overflow_cast-result : goal.overflow_cast-result
overflow_cast-result c =
    omega (arith, sent-fits (the-visit (goal.at.overflow_cast-result c).Start) c.args.self.now.visit.acceptable _ (ap (λ (b : Sent). b.count) c.args.self.now.is))

pub overflow_cast-result-2 : goal.overflow_cast-result-2
overflow_cast-result-2 c =
    omega (arith, few-left (the-visit (goal.at.overflow_cast-result-2 c).Start) c.args.self.now.visit.acceptable, c.waits_after.ensures)

pub overflow_cast-result-3 : goal.overflow_cast-result-3
overflow_cast-result-3 c =
    omega (arith, size_fits (the-visit (goal.at.overflow_cast-result-3 c).Start) c.args.self.now.visit.acceptable _ c.requires.0 _ c.token_size.ensures)
