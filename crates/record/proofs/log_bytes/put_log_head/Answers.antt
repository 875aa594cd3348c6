use native.Mathlib.Omega.{arith}
use borrow.Author.Rules.{rules}
use Rattle.record.proofs.Arrays.{HeadArrays}
use Rattle.record.proofs.PutLaws.{log-stored}
use Rattle.record.proofs.log_bytes.put_log_head.Goals as goal
use Rattle.record.proofs.log_bytes.put_log_head.Goals.{Start}

arrays : (c : Start) → HeadArrays c.args.l
arrays c = search rules

pub put_run-requires : goal.put_run-requires
put_run-requires c = omega (arith, (arrays (goal.at.put_run-requires c).Start).members, c.requires)

pub returns : goal.returns
returns c =
    log-stored _ _ _ _ _ _ _ _ _ _ (arrays (goal.at.returns c).Start) c.requires
    c.put.ensures
    c.put-2.ensures
    c.put_run.ensures
    c.put-3.ensures
    c.put-4.ensures
    c.put-5.ensures
    c.put_places.ensures
