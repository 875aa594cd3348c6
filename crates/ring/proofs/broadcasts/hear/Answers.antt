use mathlib.Core.Path.{sym, ◌∙◌}
use borrow.Author.Tests.{not-true, not-false}
use Rattle.ring.proofs.places.HearingLaws.{not-reached, reached}
use Rattle.ring.proofs.broadcasts.hear.Goals as goal

pub returns-then-not-is_message : goal.returns-then-not-is_message
returns-then-not-is_message c =
    let args = c.args in
    not-reached args.place args.records.now args.frame.now args.deliveries.now args.at c.requires
    (sym c.is_message.ensures ∙ not-true _ c.if-not-is_message.true-raw)

pub returns : goal.returns
returns c =
    let args = c.args in
    let message = sym c.is_message.ensures ∙ not-false _ c.if-not-is_message.false-raw in
    reached args.place args.records.now args.frame.now args.deliveries.now args.at c.requires message c.arrive_at-heard.result _ _ c.arrive_at-heard.ensures.0 c.arrive_at-heard.ensures.1 c.arrive_at-heard.ensures.3
