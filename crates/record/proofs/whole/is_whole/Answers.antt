use Rattle.record.proofs.WholeLaws.{shown-wrong, shown-right}
use Rattle.record.proofs.whole.is_whole.Goals as goal

pub returns-then-r-undelivered : goal.returns-then-r-undelivered
returns-then-r-undelivered c = shown-wrong _ _ _ c.from-h.ensures c.undelivered.ensures c.if-r-undelivered.true

pub returns : goal.returns
returns c = shown-right _ _ _ c.from-h.ensures c.undelivered.ensures c.if-r-undelivered.false _ c.is_whole_on.ensures
