use native.Mathlib.Omega.{arith}
use Rattle.words.proofs.WordLaws.{word_two}
use Rattle.words.proofs.word.U16Word.get.Goals as goal

pub returns : goal.returns
returns c = omega (arith, c.from_le_bytes.ensures, word_two c.args.s.now c.args.at c.requires)
