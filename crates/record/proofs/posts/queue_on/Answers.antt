use native.Mathlib.Omega.{arith}
use Rattle.record.specs.Posts.{queued}
use Rattle.record.proofs.posts.queue_on.Goals as goal

pub put_slice-requires : goal.put_slice-requires
put_slice-requires c =
    omega (arith, c.requires)

pub returns : goal.returns
unfolding queued
returns c = cc
