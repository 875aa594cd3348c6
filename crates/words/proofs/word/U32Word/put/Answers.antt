use native.Mathlib.Omega.{arith}
use mathlib.Core.Path.{◌∙◌}
use Rattle.words.proofs.StoreLaws.{placed}
use Rattle.words.proofs.WordLaws.{length-word, le_bytes}
use Rattle.words.proofs.word.U32Word.put.Goals as goal

pub returns : goal.returns
returns c = placed _ _ _ _ _ (rw length-word (omega arith)) (c.copy_from_slice.ensures.after ∙ c.to_le_bytes.ensures ∙ le_bytes 4 c.args.x) (rw length-word c.requires)
