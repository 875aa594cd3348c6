use native.Mathlib.Omega.{arith}
use Rattle.visit.specs.Deliver.{frame_with}
use Rattle.visit.specs.inner.Steps.{held_log}
use Rattle.visit.proofs.FrameLaws.{Writable, held-follows, frame-short}
use Rattle.visit.proofs.PutFrames.{held-content}
use Rattle.visit.proofs.held_log.HeldLog.put_held.Goals as goal
use Rattle.visit.proofs.held_log.HeldLog.put_held.Goals.{Start}

writable : (c : Start) → Writable (held_log c.args.self.now)
writable c = record { log = c.args.self.now.good; header = c.args.self.now.follows }

pub put_message-requires : goal.put_message-requires
unfolding frame_with
put_message-requires c =
    let l = held_log c.args.self.now in
    let w = writable (goal.at.put_message-requires c).Start in
    rw (c.args.self.now.of_ring, held-content l w c.args.n.0 c.requires.0)
    (held-follows l w c.args.n.0 c.requires.0, omega (arith, frame-short l w c.args.n.0 c.requires.0, c.requires.1))

pub returns : goal.returns
unfolding frame_with
returns c =
    let l = held_log c.args.self.now in
    let w = writable (goal.at.returns c).Start in
    rw (c.args.self.now.of_ring, held-content l w c.args.n.0 c.requires.0) at c.put_message.ensures
