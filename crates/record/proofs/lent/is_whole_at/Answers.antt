use mathlib.Core.Path.{sym}
use Rattle.record.proofs.LentLaws.{other_length, shown-wrong, whole-there}
use Rattle.record.proofs.lent.is_whole_at.Goals as goal

pub returns-then-s-ne-RECORD_SIZE : goal.returns-then-s-ne-RECORD_SIZE
returns-then-s-ne-RECORD_SIZE c = sym (other_length _ c.if-s-ne-RECORD_SIZE.true)

pub returns-then-get-undelivered : goal.returns-then-get-undelivered
returns-then-get-undelivered c = shown-wrong _ _ c.if-s-ne-RECORD_SIZE.false c.requires _ c.get.ensures _ c.undelivered.ensures c.if-get-undelivered.true

pub returns : goal.returns
returns c = whole-there _ _ c.if-s-ne-RECORD_SIZE.false c.requires _ c.get.ensures _ _ c.undelivered.ensures c.if-get-undelivered.false (rw (c.contents_in.ensures, c.waiting_in.ensures) at c.is_whole_on.ensures)
