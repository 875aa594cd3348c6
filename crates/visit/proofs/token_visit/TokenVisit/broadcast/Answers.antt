use mathlib.Core.Path.{ap, ◌∙◌}
use lib.ListN.{length}
use native.Mathlib.Omega.{arith}
use Rattle.record.specs.inner.Head.{contents_in}
use Rattle.record.specs.Layout.{log_at}
use Rattle.visit.specs.Visit.{Visit}
use Rattle.visit.specs.inner.Steps.{visit_of}
use Rattle.visit.proofs.VisitFacts.{token-good, new-posts, new-numbers}
use Rattle.visit.proofs.Broadcast.{safe-most, asked-few, split-held, sent-few, level-ready, all-sent}
use Rattle.visit.proofs.token_visit.TokenVisit.broadcast.Goals as goal
use Rattle.visit.proofs.token_visit.TokenVisit.broadcast.Goals.{Start}

abbrev the-visit : Start → Visit
the-visit c = visit_of c.args.self.now

pub slice_bounds-take-end : goal.slice_bounds-take-end
slice_bounds-take-end c =
    let asked = (token-good (the-visit (goal.at.slice_bounds-take-end c).Start) c.args.self.now.acceptable).requests in
    omega (arith, asked.few)

pub take-requires : goal.take-requires
take-requires c =
    (safe-most (the-visit (goal.at.take-requires c).Start) c.args.self.now.acceptable, asked-few (the-visit (goal.at.take-requires c).Start) c.args.self.now.acceptable _, c.none-split.ensures)

pub new_count-added-requires : goal.new_count-added-requires
new_count-added-requires c =
    c.len-repeated.ensures ∙ ap length (split-held (the-visit (goal.at.new_count-added-requires c).Start) c.args.self.now.acceptable _ c.numbers_in-requests.ensures _ (c.take.ensures (contents_in c.args.self.now.bytes.now log_at)))

pub hold_new-requires : goal.hold_new-requires
hold_new-requires c =
    let v = the-visit (goal.at.hold_new-requires c).Start in
    let counted = c.new_count-added.ensures in
    (omega (arith, counted, new-posts v), omega (arith, counted, new-numbers v, (token-good v c.args.self.now.acceptable).highest))

pub raise-log-requires : goal.raise-log-requires
raise-log-requires c =
    level-ready (the-visit (goal.at.raise-log-requires c).Start) c.args.self.now.acceptable _ c.numbers_in-requests.ensures _ (c.take.ensures (contents_in c.args.self.now.bytes.now log_at)) _ c.new_count-added.ensures _ c.hold_new.ensures

pub put_repeats-size-requires : goal.put_repeats-size-requires
put_repeats-size-requires c =
    (split-held (the-visit (goal.at.put_repeats-size-requires c).Start) c.args.self.now.acceptable _ c.numbers_in-requests.ensures _ (c.take.ensures (contents_in c.args.self.now.bytes.now log_at)), c.requires)

pub returns : goal.returns
returns c = (
  rw c.len-repeated.ensures (all-sent (the-visit (goal.at.returns c).Start) c.args.self.now.acceptable _ c.numbers_in-requests.ensures _ (c.take.ensures (contents_in c.args.self.now.bytes.now log_at)) _ c.new_count-added.ensures _ c.hold_new.ensures _ c.raise-log.ensures _ c.put_repeats-size.ensures.0),
  c.put_repeats-size.ensures.1,
)

pub overflow_add-result : goal.overflow_add-result
overflow_add-result c =
    omega (arith, c.len-repeated.ensures, sent-few (the-visit (goal.at.overflow_add-result c).Start) c.args.self.now.acceptable _ c.numbers_in-requests.ensures _ (c.take.ensures (contents_in c.args.self.now.bytes.now log_at)) _ c.new_count-added.ensures)
