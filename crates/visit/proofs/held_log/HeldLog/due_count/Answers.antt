use mathlib.Core.Path.{sym, ◌∙◌}
use Rattle.visit.proofs.DueCount.{count-starts, count-stops, count-goes, count-ends}
use Rattle.visit.proofs.held_log.HeldLog.due_count.Goals as goal

pub loop-last-init : goal.loop-last-init
loop-last-init c = λ contents. count-starts _ _

pub returns-then-not-is_due : goal.returns-then-not-is_due
returns-then-not-is_due c = λ contents. count-stops _ _ _ (c.loop-last.invariant contents) (sym (c.if-not-is_due.ensures contents))

pub loop-last-preserved : goal.loop-last-preserved
loop-last-preserved c = λ contents. count-goes _ _ _ (c.loop-last.invariant contents) c.loop-last-test.true (sym (c.if-not-is_due.ensures contents))

pub returns : goal.returns
returns c = λ contents. c.saturating_sub.ensures ∙ count-ends _ _ _ (c.loop-last.invariant contents) c.loop-last-test.false
