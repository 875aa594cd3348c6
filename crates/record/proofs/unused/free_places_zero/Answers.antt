use mathlib.Core.Path.{◌≡◌}
use native.Mathlib.Omega.{arith}
use lib.ListN.{length}
use borrow.Author.Rules.{rules}
use Rattle.std.specs.Iterator.Adapters.{zip_first, zip_second}
use Rattle.std.specs.Slice.Iter.{iter_rest}
use Rattle.record.specs.Size.{most_held}
use Rattle.record.specs.Whole.{free_places_zero}
use Rattle.record.proofs.CountLaws.{gathered-starts, gathered-more, gathered-ends}
use Rattle.record.proofs.ZipLaws.{three_turn, three_end}
use Rattle.record.proofs.unused.free_places_zero.Goals as goal

pub loop-sender-init : goal.loop-sender-init
loop-sender-init c = gathered-starts _ _ _

pub loop-sender-preserved : goal.loop-sender-preserved
loop-sender-preserved c =
    let places = c.args.l in
    let all = c.into_iter-sender-iterator.result in
    let first : iter_rest (zip_first (zip_first all)) ≡ places.senders = search rules in
    let second : iter_rest (zip_second (zip_first all)) ≡ places.services = search rules in
    let third : iter_rest (zip_second all) ≡ places.lengths = search rules in
    let long : length places.senders ≡ most_held = search rules in
    let turn = three_turn places.senders places.services places.lengths c.loop-sender.yielded all c.loop-sender.sender-iterator c.next.new.self c.next.result first second third c.loop-sender.yielded_by _ c.in-Some.is c.next.ensures.steps in
    gathered-more _ _ _ _ _ _ c.loop-sender.invariant (omega (arith, turn.0, long)) (rw (turn.1, turn.2, turn.3))

pub returns : goal.returns
unfolding free_places_zero
returns c =
    let places = c.args.l in
    let all = c.into_iter-sender-iterator.result in
    let first : iter_rest (zip_first (zip_first all)) ≡ places.senders = search rules in
    let second : iter_rest (zip_second (zip_first all)) ≡ places.services = search rules in
    let third : iter_rest (zip_second all) ≡ places.lengths = search rules in
    let senders : length places.senders ≡ most_held = search rules in
    let services : length places.services ≡ most_held = search rules in
    let lengths : length places.lengths ≡ most_held = search rules in
    let end = three_end places.senders places.services places.lengths c.loop-sender.yielded all c.loop-sender.sender-iterator c.next.new.self c.next.result first second third c.loop-sender.yielded_by c.in-None.is c.next.ensures.steps in
    λ contents. gathered-ends _ _ _ _ _ c.loop-sender.invariant (omega (arith, end, senders, services, lengths))
