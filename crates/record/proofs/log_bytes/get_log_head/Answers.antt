use Rattle.record.proofs.GetLaws.{log-read}
use Rattle.record.proofs.log_bytes.get_log_head.Goals as goal

pub returns : goal.returns
returns c = log-read _ _ _ _ _ _ _ _ _ _
    c.get.ensures
    c.get-2.ensures
    c.get_run.ensures
    c.get-3.ensures
    c.get-4.ensures
    c.get-5.ensures
    c.get_run-2.ensures
    c.get_run-3.ensures
    c.get_slice.ensures
