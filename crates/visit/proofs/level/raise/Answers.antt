use Rattle.record.specs.inner.Head.{log_on}
use Rattle.visit.proofs.HearLaws.{raised-as}
use Rattle.visit.proofs.level.raise.Goals as goal

pub returns : goal.returns
returns c = λ contents. raised-as (log_on c.args.l contents) c.level_of-level.result c.level_of-level.ensures
