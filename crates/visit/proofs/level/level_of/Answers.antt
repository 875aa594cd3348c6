use mathlib.Core.Path.{sym}
use native.Mathlib.Omega.{arith}
use Rattle.visit.proofs.HearLaws.{rise-stops, rise-goes, rise-ends}
use Rattle.visit.proofs.level.level_of.Goals as goal

pub returns-then-not-is_held : goal.returns-then-not-is_held
returns-then-not-is_held c = rise-stops _ _ _ c.loop-reached.invariant (omega arith) (sym c.if-not-is_held.ensures)

pub loop-reached-preserved : goal.loop-reached-preserved
loop-reached-preserved c = rise-goes _ _ _ c.loop-reached.invariant (omega arith) (sym c.if-not-is_held.ensures)

pub returns : goal.returns
returns c = rise-ends _ _ _ c.loop-reached.invariant (omega arith)
