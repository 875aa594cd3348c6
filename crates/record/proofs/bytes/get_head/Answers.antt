use Rattle.record.proofs.GetLaws.{head_read}
use Rattle.record.proofs.bytes.get_head.Goals as goal

pub returns : goal.returns
returns c = head_read _ _ _ _ _ c.get.ensures c.get_log_head.ensures c.get_turn.ensures c.get_posts_head.ensures
