use Rattle.record.proofs.GetLaws.{count-read}
use Rattle.record.proofs.bytes.post_count.Goals as goal

pub returns : goal.returns
returns c = count-read _ _ c.get.ensures
