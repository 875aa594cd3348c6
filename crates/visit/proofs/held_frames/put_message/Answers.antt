use mathlib.Core.Path.{◌∙◌}
use native.Mathlib.Omega.{arith}
use Rattle.frames.proofs.Sizes.{message-length}
use Rattle.frames.proofs.WriteLaws.{message-put}
use Rattle.visit.proofs.PutFrames.{frame-put, rest-long}
use Rattle.visit.proofs.held_frames.put_message.Goals as goal

pub returns : goal.returns
returns c = (
  omega (arith, message-length c.args.m c.args.content.now),
  frame-put _ _ _ _ c.requires.1 _ c.requires.0
      (c.put_message.ensures ∙ message-put c.args.m c.args.content.now _ c.requires.0 (omega (arith, message-length c.args.m c.args.content.now, c.requires.1, rest-long c.args.out.now c.args.at))),
)
