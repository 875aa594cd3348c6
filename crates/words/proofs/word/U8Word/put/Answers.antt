use borrow.Author.Rules.{rules}
use Rattle.words.proofs.WordLaws.{byte_word}
use Rattle.words.proofs.word.U8Word.put.Goals as goal

pub returns : goal.returns
returns c = rw (byte_word c.args.x (search rules))
