use native.Mathlib.Omega.{arith}
use Rattle.words.proofs.WordLaws.{byte_at}
use Rattle.words.proofs.word.U8Word.get.Goals as goal

pub returns : goal.returns
returns c = byte_at _ _ (omega arith)
