use Rattle.record.specs.inner.Head.{contents_in, head_with}
use Rattle.record.specs.Layout.{log_at}
use Rattle.visit.specs.Visit.{posts}
use Rattle.visit.specs.inner.Steps.{visit_of}
use Rattle.visit.proofs.HoldNew.{Heading}
use Rattle.visit.proofs.token_visit.TokenVisit.hold_new.Given as goal

abbrev pub invariant-loop-i : goal.invariant-loop-i
invariant-loop-i l =
    Heading l.log (contents_in l.self.bytes.now log_at) l.self.head.now.own l.highest (posts (visit_of l.self)) l.n (head_with l.log l.log.level l.log.safe l.log.delivered l.senders l.services l.lengths) l.i
