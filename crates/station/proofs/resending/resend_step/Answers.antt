use Rattle.std.proofs.Common.{rules, refl, ◌∙◌, [], length}
use Rattle.station.specs.Reply.{answered, Does}
use Rattle.station.specs.Over.{resend_over}
use Rattle.station.specs.inner.Value.{zeros, lent_by}
use Rattle.station.proofs.ByValue.{resent-by-value}
use Rattle.station.proofs.resending.resend_step.Goals as goal

pub returns : goal.returns
returns c =
    let e = c.over_bytes.ensures in
    let does : Does answered (resend_over (lent_by c.args.rec zeros) (length c.args.frames.now)) c.over_bytes.result.answer (lent_by c.args.rec zeros) e.0 c.args.frames.now _ [] [] = search rules in
    let d = resent-by-value c.args.rec _ _ refl _ c.args.frames.now _ does in
    (e.2 ∙ d.0, d.1)
