use native.Mathlib.Omega.{arith}
use Rattle.visit.specs.Visit.{Visit}
use Rattle.visit.specs.inner.Steps.{visit_of}
use Rattle.visit.proofs.Forward.{highest-fits, window-fits, missing-ready, requested}
use Rattle.visit.proofs.sent_visit.SentVisit.requests_after.Goals as goal
use Rattle.visit.proofs.sent_visit.SentVisit.requests_after.Goals.{Start}

abbrev the-visit : Start → Visit
the-visit c = visit_of c.args.self.now.visit

pub overflow_add-highest : goal.overflow_add-highest
overflow_add-highest c =
    omega (arith, highest-fits (the-visit (goal.at.overflow_add-highest c).Start) c.args.self.now.visit.acceptable _ c.args.self.now.is)

pub overflow_add-window : goal.overflow_add-window
overflow_add-window c =
    omega (arith, window-fits (the-visit (goal.at.overflow_add-window c).Start) c.args.self.now.visit.acceptable _ c.args.self.now.is _ c.requires)

pub add_missing-requires : goal.add_missing-requires
add_missing-requires c =
    missing-ready (the-visit (goal.at.add_missing-requires c).Start) c.args.self.now.visit.acceptable _ c.args.self.now.is _ c.requires _ c.min.ensures

pub returns : goal.returns
returns c =
    requested (the-visit (goal.at.returns c).Start) c.args.self.now.visit.acceptable _ c.args.self.now.is _ c.requires _ c.min.ensures _ c.add_missing.ensures
