use mathlib.Core.Path.{ap, ◌∙◌}
use native.Mathlib.Omega.{arith}
use Rattle.record.specs.Bytes.{record_bytes}
use Rattle.record.specs.inner.Head.{posts_on, record_in}
use Rattle.record.proofs.PartLaws.{waiting_stays}
use Rattle.visit.specs.Visit.{Visit}
use Rattle.visit.specs.Acceptable.{visit}
use Rattle.visit.proofs.VisitReads.{written-fits}
use Rattle.visit.proofs.Finish.{added-fits, finish-ready, size_fits, left, left-record, hands_out, all-written}
use Rattle.visit.proofs.visiting.accept.Goals as goal
use Rattle.visit.proofs.visiting.accept.Goals.{Start}

abbrev the-visit : Start → Visit
the-visit c = visit (record_in c.args.h.now c.args.s.now) c.args.t.now

pub finish-handed-requires : goal.finish-handed-requires
finish-handed-requires c =
    let ready = finish-ready (the-visit (goal.at.finish-handed-requires c).Start) c.requires.0 _ c.broadcast-b.ensures.0 _ c.forward-f.ensures _ c.send_new-written.ensures.1 in
    (c.send_new-written.auto.s ∙ c.requires.1, ready.0, ready.1, ready.2, ready.3, ready.4, ready.5, c.requires.3)

pub returns : goal.returns
returns c =
    let v = the-visit (goal.at.returns c).Start in
    let a = c.requires.0 in
    let sends = c.broadcast-b.ensures in
    let forwards = c.forward-f.ensures in
    let new_numbers = c.send_new-written.ensures in
    let leaves = c.finish-handed.ensures in (
      left v a _ sends.0 _ forwards _ new_numbers.1 _ _ new_numbers.0 leaves.0,
      leaves.1 ∙ ap record_bytes (left-record v a _ sends.0 _ forwards _ new_numbers.1 _ (ap (posts_on c.args.h.now.posts) (waiting_stays c.args.s.now c.send_new-written.new.s new_numbers.2))),
      all-written v a _ sends.0 _ _ _ c.requires.2 sends.1 new_numbers.3,
      hands_out v a _ sends.0 _ forwards _ new_numbers.1 _ _ leaves.2,
    )

pub overflow_cast-b : goal.overflow_cast-b
overflow_cast-b c =
    omega (arith, added-fits (the-visit (goal.at.overflow_cast-b c).Start) c.requires.0 _ c.broadcast-b.ensures.0)

pub overflow_cast-result : goal.overflow_cast-result
overflow_cast-result c =
    omega (arith, c.send_new-written.ensures.0, written-fits (the-visit (goal.at.overflow_cast-result c).Start) c.requires.0)

pub overflow_cast-result-2 : goal.overflow_cast-result-2
overflow_cast-result-2 c =
    omega (arith, size_fits (the-visit (goal.at.overflow_cast-result-2 c).Start) c.requires.0 _ c.broadcast-b.ensures.0 _ c.forward-f.ensures _ c.send_new-written.ensures.1 _ c.finish-handed.ensures.0)
