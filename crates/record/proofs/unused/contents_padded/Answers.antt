use Prim.Native.Nat.{◌/◌}
use mathlib.Core.Path.{refl, sym, ap, ◌∙◌}
use mathlib.Core.List.{[]}
use native.Mathlib.Nat.{zero-add}
use native.Mathlib.Omega.{arith}
use lib.ListN.{length, get_or}
use Rattle.frames.specs.Layout.{most_content}
use Rattle.record.specs.Whole.{contents_padded}
use Rattle.record.proofs.CountLaws.{count-starts, count-stops, count-goes, count-ends}
use Rattle.record.proofs.UnusedLaws.{padding-tested}
use Rattle.record.proofs.unused.contents_padded.Goals as goal

pub loop-i-init : goal.loop-i-init
loop-i-init c = count-starts _ _ _

pub returns-then-not-content_padded : goal.returns-then-not-content_padded
unfolding contents_padded
returns-then-not-content_padded c =
    let i = c.loop-i.i in
    let lengths = c.args.lengths.now in
    let contents = c.args.contents.now in
    let piece = ap (λ p. get_or p i []) c.as_chunks.ensures.front in
    let tested = padding-tested lengths contents i (length contents / most_content) _ _ _ (omega (arith, c.loop-i-test.true, c.as_chunks.ensures.front_len)) piece refl (sym c.if-not-content_padded.true ∙ c.content_padded.ensures) in
    count-stops _ _ _ _ c.loop-i.invariant (omega (arith, c.loop-i-test.true, c.as_chunks.ensures.front_len, c.requires)) (rw zero-add (sym tested))

pub loop-i-preserved : goal.loop-i-preserved
loop-i-preserved c =
    let i = c.loop-i.i in
    let lengths = c.args.lengths.now in
    let contents = c.args.contents.now in
    let piece = ap (λ p. get_or p i []) c.as_chunks.ensures.front in
    let tested = padding-tested lengths contents i (length contents / most_content) _ _ _ (omega (arith, c.loop-i-test.true, c.as_chunks.ensures.front_len)) piece refl (sym c.if-not-content_padded.false ∙ c.content_padded.ensures) in
    count-goes _ _ _ _ c.loop-i.invariant (omega (arith, c.loop-i-test.true, c.as_chunks.ensures.front_len, c.requires)) (rw zero-add (sym tested))

pub returns : goal.returns
unfolding contents_padded
returns c = count-ends _ _ _ _ c.loop-i.invariant (omega (arith, c.loop-i-test.false, c.as_chunks.ensures.front_len, c.requires))
