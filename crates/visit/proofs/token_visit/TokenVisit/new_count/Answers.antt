use native.Mathlib.Omega.{arith}
use Rattle.visit.specs.Visit.{new_count, allowance, round_allowance, others, others_backlog}
use Rattle.visit.specs.inner.Steps.{visit_of}
use Rattle.visit.proofs.VisitFacts.{few-wait}
use Rattle.visit.proofs.Broadcast.{safe-most}
use Rattle.visit.proofs.token_visit.TokenVisit.new_count.Goals as goal

pub allowance-requires : goal.allowance-requires
allowance-requires c = few-wait (visit_of c.args.self.now) c.args.self.now.acceptable

pub overflow_add-self : goal.overflow_add-self
overflow_add-self c = omega (arith, safe-most (visit_of c.args.self.now) c.args.self.now.acceptable)

pub returns : goal.returns
unfolding new_count allowance round_allowance others others_backlog
returns c = omega (arith, c.allowance.ensures, c.requires)
