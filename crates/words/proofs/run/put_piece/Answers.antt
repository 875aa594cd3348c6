use Rattle.words.proofs.StoreLaws.{piece-put}
use Rattle.words.proofs.run.put_piece.Goals as goal

pub returns : goal.returns
returns g c = piece-put _ _ _ _ _ _ c.requires.0 c.put_slice.ensures c.put_slice-2.ensures
