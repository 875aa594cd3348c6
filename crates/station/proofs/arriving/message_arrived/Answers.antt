use Rattle.std.proofs.Common.{rules}
use Rattle.record.specs.inner.Head.{record_in}
use Rattle.visit.specs.Acceptable.{Hearable}
use Rattle.station.proofs.LentLaws.{ids_fit}
use Rattle.station.proofs.DoesLaws.{known}
use Rattle.station.proofs.ArriveLaws.{heard-does, message-passes}
use Rattle.station.proofs.arriving.message_arrived.Goals as goal

pub ids-ids-requires : goal.ids-ids-requires
ids-ids-requires c = ids_fit c.args.h.now c.args.s.now c.requires.0

pub returns : goal.returns
returns c =
    let r = record_in c.args.h.now c.args.s.now in
    let hearable : Hearable r c.args.m c.args.content.now = search rules in
    known _ _ _ _ _ _ _ _ _ (message-passes r c.args.m _ hearable) (heard-does r c.args.m _ _ _ c.args.s.now _ _ _ c.requires.0.size c.hear-heard.ensures c.from.ensures)
