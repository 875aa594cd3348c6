use mathlib.Core.Bool.{◌&&◌}
use lib.Dec.{leb}
use Rattle.words.proofs.ScanLaws.{Gathering}
use Rattle.words.proofs.scan.all_within.Given as goal

abbrev pub invariant-loop-x : goal.invariant-loop-x
invariant-loop-x g l = let number = g.W.Word.value in Gathering (λ x after. leb (number l.low) (number x) && leb (number x) (number l.high)) l.s l.good l.x-index
