use native.Mathlib.Omega.{arith}
use Rattle.text.proofs.PutLaws.{put-beyond, put-left-out, put-stored}
use Rattle.text.proofs.put.put_bytes.Goals as goal

pub returns-then-out-at : goal.returns-then-out-at
returns-then-out-at c = put-beyond _ _ _ c.if-out-at.true

pub returns-then-out-at-2 : goal.returns-then-out-at-2
returns-then-out-at-2 c = put-left-out _ _ _ (omega arith) c.if-out-at-2.true

pub returns : goal.returns
returns c = put-stored _ _ _ _ (omega arith) c.put_slice.ensures
