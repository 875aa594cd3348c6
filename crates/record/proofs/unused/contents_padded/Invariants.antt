use lib.ListN.{length}
use Rattle.words.specs.Scan.{all_zero}
use Rattle.record.specs.Contents.{padding}
use Rattle.record.proofs.CountLaws.{Counting}
use Rattle.record.proofs.unused.contents_padded.Given as goal

abbrev pub invariant-loop-i : goal.invariant-loop-i
invariant-loop-i l = Counting (λ place. all_zero (padding l.lengths l.fn.contents place)) 0 (length l.lengths) l.i
