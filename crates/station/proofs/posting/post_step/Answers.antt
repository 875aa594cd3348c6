use Rattle.std.proofs.Common.{rules, refl, ◌∙◌, []}
use Rattle.station.specs.Reply.{answered, Does}
use Rattle.station.specs.Over.{post_over}
use Rattle.station.specs.inner.Value.{zeros, lent_by}
use Rattle.station.proofs.ByValue.{posted-by-value}
use Rattle.station.proofs.posting.post_step.Goals as goal

pub returns : goal.returns
returns c =
    let e = c.over_bytes.ensures in
    let m = e.1.met in
    let does : Does answered (post_over (lent_by c.args.rec zeros) c.args.service c.args.content.now) c.over_bytes.result.answer (lent_by c.args.rec zeros) e.0 [] [] [] [] = search rules in
    e.2 ∙ posted-by-value c.args.rec _ _ refl _ c.args.service c.args.content.now does
