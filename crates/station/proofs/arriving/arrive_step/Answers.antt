use Rattle.std.proofs.Common.{rules, refl, ◌∙◌, length}
use Rattle.station.specs.Reply.{answered, Does}
use Rattle.station.specs.Over.{arrive_over}
use Rattle.station.specs.inner.Value.{zeros, lent_by}
use Rattle.station.proofs.ByValue.{arrived-by-value}
use Rattle.station.proofs.arriving.arrive_step.Goals as goal

pub returns : goal.returns
returns c =
    let args = c.args in
    let e = c.over_bytes.ensures in
    let does : Does answered (arrive_over (lent_by args.rec zeros) args.frame.now (length args.frames.now) (length args.deliveries.now)) c.over_bytes.result.answer (lent_by args.rec zeros) e.0 args.frames.now _ args.deliveries.now _ = search rules in
    let d = arrived-by-value args.rec _ _ refl _ args.frame.now args.frames.now _ args.deliveries.now _ does in
    (e.2 ∙ d.0, d.1, d.2)
