use Rattle.words.proofs.ScanLaws.{Scanning}
use Rattle.words.specs.Scan.{lacks_by}
use Rattle.words.proofs.scan.distinct.Given as goal

abbrev pub invariant-loop-i : goal.invariant-loop-i
invariant-loop-i g l = Scanning (λ x after. lacks_by g.T.PartialEq.eq after x) l.s l.i
