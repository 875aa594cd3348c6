use Rattle.std.proofs.Common.{rules}
use Rattle.ring.proofs.places.HearingLaws.{hearing-starts, hearing-goes, hearing-ends}
use Rattle.ring.proofs.broadcasts.hear_all.Goals as goal

pub loop-frame-init : goal.loop-frame-init
loop-frame-init c = (tt, tt, rw (c.into_iter-frame-iterator.ensures.into_iter_gives, c.new-frame-items.ensures) (hearing-starts _ _ _ _))

pub loop-frame-preserved : goal.loop-frame-preserved
loop-frame-preserved c = (tt, tt, hearing-goes _ _ _ _ _ _ _ _ c.loop-frame.invariant.2 _ _ _ _ _ c.in-Some.ensures.steps c.hear-at.ensures (search rules) (search rules))

pub returns : goal.returns
returns c = hearing-ends _ _ _ _ _ _ _ _ c.loop-frame.invariant.2 c.in-None.ensures.steps.0
