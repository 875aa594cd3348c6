use mathlib.Core.Path.{◌∙◌}
use Rattle.station.proofs.ByValue.{founded-by-value}
use Rattle.station.proofs.founding.found_step.Goals as goal

pub returns : goal.returns
returns c =
    let d = founded-by-value c.args.rec c.args.ids.now c.args.own c.args.ring.0 _ _ c.args.token.now _ c.found_ids_in-answer.ensures in
    (c.settle.ensures ∙ d.0, d.1)
