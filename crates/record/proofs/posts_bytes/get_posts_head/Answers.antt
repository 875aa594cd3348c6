use Rattle.record.proofs.GetLaws.{posts-read}
use Rattle.record.proofs.posts_bytes.get_posts_head.Goals as goal

pub returns : goal.returns
returns c = posts-read _ _ _ _ c.get.ensures c.get_run.ensures c.get_slice.ensures
