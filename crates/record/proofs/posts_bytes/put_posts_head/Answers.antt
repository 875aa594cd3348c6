use mathlib.Core.Path.{◌≡◌}
use native.Mathlib.Omega.{arith}
use lib.ListN.{length}
use borrow.Author.Rules.{rules}
use Rattle.record.specs.Size.{most_posts}
use Rattle.record.proofs.PutLaws.{posts-stored}
use Rattle.record.proofs.posts_bytes.put_posts_head.Goals as goal
use Rattle.record.proofs.posts_bytes.put_posts_head.Goals.{Start}

services : (c : Start) → length c.args.p.services ≡ most_posts
services c = search rules

lengths : (c : Start) → length c.args.p.lengths ≡ most_posts
lengths c = search rules

pub put_run-requires : goal.put_run-requires
put_run-requires c = omega (arith, services (goal.at.put_run-requires c).Start, c.requires)

pub put_slice-requires : goal.put_slice-requires
put_slice-requires c = omega (arith, lengths (goal.at.put_slice-requires c).Start, c.requires)

pub returns : goal.returns
returns c = posts-stored _ _ _ _ _ _ (services (goal.at.returns c).Start) (lengths (goal.at.returns c).Start) c.requires c.put.ensures c.put_run.ensures c.put_slice.ensures
