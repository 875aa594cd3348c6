use mathlib.Core.Path.{sym, ap, ◌∙◌}
use Rattle.record.specs.inner.Head.{record_head}
use Rattle.record.proofs.LentLaws.{lent_of, lent_none}
use Rattle.record.proofs.lent.head_in.Goals as goal

pub returns-then-s-ne-RECORD_SIZE : goal.returns-then-s-ne-RECORD_SIZE
returns-then-s-ne-RECORD_SIZE c = ap record_head (c.fresh_head.ensures ∙ sym (lent_none _ c.if-s-ne-RECORD_SIZE.true))

pub returns : goal.returns
returns c = c.get_head.ensures ∙ ap record_head (sym (lent_of _ c.if-s-ne-RECORD_SIZE.false))
