use mathlib.Core.Path.{sym, ◌∙◌}
use borrow.Author.Tests.{leb-true}
use Rattle.std.proofs.Common.{arith, ◌≡◌, length}
use Rattle.frames.specs.Read.{read_of}
use Rattle.record.specs.inner.Head.{record_in}
use Rattle.station.specs.Arrive.{frame_arrived, arrived}
use Rattle.station.specs.Over.{arrive_over}
use Rattle.station.proofs.LentLaws.{head_lent, head_there}
use Rattle.station.proofs.ReplyLaws.{said_yes}
use Rattle.station.proofs.DoesLaws.{known}
use Rattle.station.proofs.arriving.arrive_in.Goals as goal

pub frame_arrived-requires : goal.frame_arrived-requires
frame_arrived-requires c =
    let w = sym c.is_whole_at.ensures ∙ said_yes _ _ _ _ c.ask-3.ensures c.in_ok-ask-3.was in (
      head_there _ _ w c.head_in-head.ensures,
      leb-true _ _ (said_yes _ _ _ _ c.ask.ensures c.in_ok-ask.was),
      leb-true _ _ (said_yes _ _ _ _ c.ask-2.ensures c.in_ok-ask-2.was),
    )

pub returns : goal.returns
unfolding arrive_over arrived
returns c =
    let frame = c.args.frame.now in
    let passes : arrive_over c.args.s.now frame (length c.args.frames.now) (length c.args.deliveries.now) ≡ frame_arrived (record_in c.head_in-head.result c.args.s.now) frame (read_of frame) = grind (arith, head_lent) in
    known _ _ _ _ _ _ _ _ _ passes c.frame_arrived.ensures
