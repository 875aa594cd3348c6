use mathlib.Core.Path.{◌≡◌, sym, ◌∙◌}
use mathlib.Core.Bool.{true}
use borrow.Author.Tests.{not-true, not-false}
use Rattle.frames.specs.Message.{message_follows}
use Rattle.frames.proofs.Sizes.{message-length}
use Rattle.frames.proofs.WriteLaws.{write-malformed, write-roomless, write-counted, message-put}
use Rattle.frames.proofs.writer.write_message.Goals as goal
use Rattle.frames.proofs.writer.write_message.Goals.{Else-not-message_follows}

follows : (c : Else-not-message_follows) → message_follows c.args.m c.args.content.now ≡ true
follows c = sym c.message_follows.ensures ∙ not-false _ c.if-not-message_follows.false-raw

pub returns-then-not-message_follows : goal.returns-then-not-message_follows
returns-then-not-message_follows c =
    let h = write-malformed _ _ _ (sym c.message_follows.ensures ∙ not-true _ c.if-not-message_follows.true-raw) in
    record { result_value = h.0; out_after = h.1 }

pub returns-then-out-size : goal.returns-then-out-size
returns-then-out-size c =
    let h = write-roomless _ _ _ _ (follows (goal.at.returns-then-out-size c).Else-not-message_follows) (message-length _ c.args.content.now) c.if-out-size.true in
    record { result_value = h.0; out_after = h.1 }

pub returns : goal.returns
returns c =
    record {
      result_value = write-counted _ _ _ _ (follows (goal.at.returns c).Else-not-message_follows) (message-length _ c.args.content.now) c.if-out-size.false;
      out_after = c.put_message.ensures ∙ message-put _ _ _ (follows (goal.at.returns c).Else-not-message_follows) c.if-out-size.false;
    }
