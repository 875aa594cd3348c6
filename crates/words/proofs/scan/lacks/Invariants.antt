use mathlib.Core.Bool.{not}
use Rattle.words.proofs.ScanLaws.{Scanning}
use Rattle.words.proofs.scan.lacks.Given as goal

abbrev pub invariant-loop-y : goal.invariant-loop-y
invariant-loop-y g l = Scanning (λ y after. not (g.T.PartialEq.eq y l.x)) l.s l.y-index
