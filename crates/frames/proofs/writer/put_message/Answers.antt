use Rattle.frames.proofs.Sizes.{message-length}
use Rattle.frames.proofs.WriteLaws.{put-roomless, message-taken}
use Rattle.frames.proofs.writer.put_message.Goals as goal

pub returns-then-out-size : goal.returns-then-out-size
returns-then-out-size c = put-roomless _ _ _ (message-length _ c.args.content.now) c.if-out-size.true

pub returns : goal.returns
returns c =
    message-taken _ c.args.content.now c.args.out.now _ _ c.if-out-size.false c.put_message_fixed.ensures c.put_many.ensures
