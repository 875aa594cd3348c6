use native.Mathlib.Omega.{arith}
use Rattle.words.proofs.StoreLaws.{piece-ends}
use Rattle.words.proofs.run.put_few.Goals as goal

pub returns : goal.returns
returns c = piece-ends c.args.out.now c.args.xs.now _ _ _ 8 _ (omega arith) c.if-n-lt8.false c.requires.1 c.put_piece.ensures c.put_piece-2.ensures
