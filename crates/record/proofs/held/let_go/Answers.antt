use mathlib.Core.Path.{refl, ◌∙◌}
use Rattle.record.specs.Held.{cleared, let_go}
use Rattle.record.specs.inner.Head.{held_on}
use Rattle.record.proofs.HeldSteps.{clear-starts, clear-goes, clear-ends}
use Rattle.record.proofs.held.let_go.Goals as goal

pub loop-n-init : goal.loop-n-init
loop-n-init c = (c.requires.2, record { ring = refl; count = refl; members = refl; level = refl; delivered = refl }, clear-starts _ _ _)

pub loop-n-preserved : goal.loop-n-preserved
unfolding cleared
loop-n-preserved c =
    let so_far = c.loop-n.invariant in
    let same = so_far.1 in
    let next = rw (clear-goes (held_on c.loop-n.log c.loop-n.contents) c.loop-n.n c.args.safe.0 c.loop-n-test.true) at so_far.2 in (
      c.put_content.auto.contents ∙ so_far.0,
      record { ring = same.ring; count = same.count; members = same.members; level = same.level; delivered = same.delivered },
      rw (c.put_content.ensures, c.place_of-place.ensures) next,
    )

pub returns : goal.returns
unfolding let_go
returns c =
    let so_far = c.loop-n.invariant in
    let same = so_far.1 in
    rw (same.ring, same.count, same.members, same.level, same.delivered, ← so_far.2, clear-ends (held_on c.loop-n.log c.loop-n.contents) c.loop-n.n c.args.safe.0 c.loop-n-test.false)
