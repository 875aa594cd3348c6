use Rattle.std.proofs.Common.{arith}
use mathlib.Core.Path.{refl, sym, ◌∙◌}
use borrow.Author.Tests.{ltb-true, eqb-true}
use Rattle.record.specs.inner.Head.{record_in, contents_in}
use Rattle.record.specs.Layout.{log_at}
use Rattle.visit.specs.Acceptable.{Acceptable, visit}
use Rattle.station.proofs.ReplyLaws.{said_yes, said_no}
use Rattle.station.proofs.LentLaws.{ids_fit}
use Rattle.station.proofs.DoesLaws.{known}
use Rattle.station.proofs.ArriveLaws.{accepted-does, token-passes, token-below}
use Rattle.station.proofs.arriving.token_arrived.Goals as goal

pub ids-ids-requires : goal.ids-ids-requires
ids-ids-requires c = ids_fit c.args.h.now c.args.s.now c.requires.0

pub returns-in_err-ask-6 : goal.returns-in_err-ask-6
returns-in_err-ask-6 c =
    let here = said_yes _ _ _ _ c.ask-3.ensures c.in_ok-ask-3.was in
    let newer = said_yes _ _ _ _ c.ask-4.ensures c.in_ok-ask-4.was in
    let not_last = said_yes _ _ _ _ c.ask-5.ensures c.in_ok-ask-5.was in
    let covers = sym (c.covers_held.ensures (contents_in c.args.s.now log_at)) ∙ said_no _ _ _ _ c.ask-6.ensures c.in_err-ask-6.was in
    known _ _ _ _ _ _ _ _ _ (token-below (record_in c.args.h.now c.args.s.now) c.args.t.now (grind arith) (grind arith) here newer not_last covers)
    (record { answers = grind arith; station = refl; frames = refl; deliveries = refl })

pub returns : goal.returns
returns c =
    let acceptable : Acceptable (visit (record_in c.args.h.now c.args.s.now) c.args.t.now) = record {
      whole_record = c.requires.0.whole_record;
      follows = c.requires.1;
      of_this_ring = grind arith;
      members = grind arith;
      here = eqb-true _ _ (said_yes _ _ _ _ c.ask-3.ensures c.in_ok-ask-3.was);
      newer = ltb-true _ _ (said_yes _ _ _ _ c.ask-4.ensures c.in_ok-ask-4.was);
      not_last = ltb-true _ _ (said_yes _ _ _ _ c.ask-5.ensures c.in_ok-ask-5.was);
      covers = sym (c.covers_held.ensures (contents_in c.args.s.now log_at)) ∙ said_yes _ _ _ _ c.ask-6.ensures c.in_ok-ask-6.was;
    } in
    known _ _ _ _ _ _ _ _ _ (token-passes (record_in c.args.h.now c.args.s.now) c.args.t.now acceptable) (accepted-does _ _ c.args.s.now _ _ _ _ _ c.requires.0.size c.accept-visited.ensures)
