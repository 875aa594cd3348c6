use mathlib.Core.Path.{sym}
use Rattle.visit.proofs.hearing.hearing_of.Goals as goal

pub returns-then-is_ahead : goal.returns-then-is_ahead
returns-then-is_ahead c = λ contents. rw (sym (c.if-is_had.ensures contents), sym (c.if-is_ahead.ensures contents))

pub returns : goal.returns
returns c = λ contents. rw (sym (c.if-is_had.ensures contents), sym (c.if-is_ahead.ensures contents))
