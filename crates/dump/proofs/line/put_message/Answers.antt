use Rattle.text.proofs.PutLaws.{put_then}
use Rattle.dump.proofs.line.put_message.Goals as goal

pub returns : goal.returns
returns c = search put_then depth 12
