use native.Mathlib.Omega.{arith}
use borrow.Author.Rules.{rules}
use Rattle.record.proofs.Arrays.{HeadArrays}
use Rattle.record.proofs.PutLaws.{places-stored}
use Rattle.record.proofs.log_bytes.put_places.Goals as goal
use Rattle.record.proofs.log_bytes.put_places.Goals.{Start}

arrays : (c : Start) → HeadArrays c.args.l
arrays c = search rules

pub put_run-requires : goal.put_run-requires
put_run-requires c = omega (arith, (arrays (goal.at.put_run-requires c).Start).senders, c.requires)

pub put_run-requires-2 : goal.put_run-requires-2
put_run-requires-2 c = omega (arith, (arrays (goal.at.put_run-requires-2 c).Start).services, c.requires)

pub put_slice-requires : goal.put_slice-requires
put_slice-requires c = omega (arith, (arrays (goal.at.put_slice-requires c).Start).lengths, c.requires)

pub returns : goal.returns
returns c = places-stored _ _ _ _ _ _ (arrays (goal.at.returns c).Start) c.put_run.ensures c.put_run-2.ensures c.put_slice.ensures
