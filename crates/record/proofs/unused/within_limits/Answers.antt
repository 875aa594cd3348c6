use mathlib.Core.Path.{◌≡◌}
use native.Mathlib.Omega.{arith}
use borrow.Author.Rules.{rules}
use Rattle.std.specs.Iterator.Adapters.{zip_first, zip_second}
use Rattle.std.specs.Slice.Iter.{iter_rest}
use Rattle.std.proofs.lemmas.Slice.Zip.{zip_turn, zip_end}
use Rattle.record.proofs.CountLaws.{gathered-starts, gathered-more, gathered-ends}
use Rattle.record.proofs.unused.within_limits.Goals as goal

pub loop-x-init : goal.loop-x-init
loop-x-init c = gathered-starts _ _ _

pub loop-x-preserved : goal.loop-x-preserved
loop-x-preserved c =
    let first : iter_rest (zip_first c.into_iter-x-iterator.result) ≡ c.args.s.now = search rules in
    let second : iter_rest (zip_second c.into_iter-x-iterator.result) ≡ c.args.limits.now = search rules in
    let turn = zip_turn c.args.s.now c.args.limits.now c.loop-x.yielded c.into_iter-x-iterator.result c.loop-x.x-iterator c.next.new.self c.next.result first second c.loop-x.yielded_by _ c.in-Some.is c.next.ensures.steps in
    gathered-more _ _ _ _ _ _ c.loop-x.invariant (omega (arith, turn.0, c.requires.0)) (rw (turn.2 0, turn.3 0))

pub returns : goal.returns
returns c =
    let first : iter_rest (zip_first c.into_iter-x-iterator.result) ≡ c.args.s.now = search rules in
    let second : iter_rest (zip_second c.into_iter-x-iterator.result) ≡ c.args.limits.now = search rules in
    let end = zip_end c.args.s.now c.args.limits.now c.loop-x.yielded c.into_iter-x-iterator.result c.loop-x.x-iterator c.next.new.self c.next.result first second c.loop-x.yielded_by c.in-None.is c.next.ensures.steps in
    gathered-ends _ _ _ _ _ c.loop-x.invariant (omega (arith, end, c.requires.0, c.requires.1))
