use mathlib.Core.Path.{ap, ◌∙◌}
use Rattle.record.specs.inner.Head.{log_on, contents_in}
use Rattle.record.specs.Layout.{log_at}
use Rattle.visit.specs.Level.{raised}
use Rattle.visit.proofs.HearLaws.{raised-as}
use Rattle.visit.proofs.hearing.keep.Goals as goal

pub returns : goal.returns
returns c =
    let contents = contents_in c.store_in-stored.new.s log_at in
    let raises = raised-as (log_on c.store_in-stored.result contents) c.level_of-level.result c.level_of-level.ensures in
    (raises ∙ ap raised c.store_in-stored.ensures.0, c.store_in-stored.ensures.1)
