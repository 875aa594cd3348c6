use native.Mathlib.Omega.{arith}
use Rattle.record.specs.inner.Head.{contents_in}
use Rattle.record.specs.Layout.{log_at}
use Rattle.visit.specs.Visit.{Visit}
use Rattle.visit.specs.inner.Steps.{visit_of}
use Rattle.visit.proofs.Forward.{members-fit, highest-fits, round-fits, backlog-fits, token-made}
use Rattle.visit.proofs.sent_visit.SentVisit.token_after.Goals as goal
use Rattle.visit.proofs.sent_visit.SentVisit.token_after.Goals.{Start}

abbrev the-visit : Start → Visit
the-visit c = visit_of c.args.self.now.visit

pub ring_header-requires : goal.ring_header-requires
ring_header-requires c = (members-fit (the-visit (goal.at.ring_header-requires c).Start) c.args.self.now.visit.acceptable).0

pub slice_bounds-next_member-end : goal.slice_bounds-next_member-end
slice_bounds-next_member-end c =
    let fit = members-fit (the-visit (goal.at.slice_bounds-next_member-end c).Start) c.args.self.now.visit.acceptable in
    omega arith

pub sum_after-requires : goal.sum_after-requires
sum_after-requires c =
    round-fits (the-visit (goal.at.sum_after-requires c).Start) c.args.self.now.visit.acceptable _ c.args.self.now.is _ c.others_part.ensures

pub sum_after-requires-2 : goal.sum_after-requires-2
sum_after-requires-2 c =
    backlog-fits (the-visit (goal.at.sum_after-requires-2 c).Start) c.args.self.now.visit.acceptable _ c.args.self.now.is _ _ c.others_part-2.ensures c.waits_after.ensures

pub returns : goal.returns
returns c =
    rw c.len.ensures
    (token-made (the-visit (goal.at.returns c).Start) c.args.self.now.visit.acceptable _ c.args.self.now.is _ _ _ _ _ _ _ _ _ _
    (c.ring_header.ensures (contents_in c.args.self.now.visit.bytes.now log_at))
    c.next_member.ensures
    c.others_part.ensures
    c.sum_after.ensures
    c.others_part-2.ensures
    c.waits_after.ensures
    c.sum_after-2.ensures
    c.requires.0
    c.requires.1
    (rw c.places.ensures at c.numbered.ensures))

pub overflow_add-result-2 : goal.overflow_add-result-2
overflow_add-result-2 c =
    omega (arith, highest-fits (the-visit (goal.at.overflow_add-result-2 c).Start) c.args.self.now.visit.acceptable _ c.args.self.now.is)
