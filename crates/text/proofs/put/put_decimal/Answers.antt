use native.Mathlib.Omega.{arith}
use Rattle.text.proofs.TextLaws.{decimal-put}
use Rattle.text.proofs.put.put_decimal.Goals as goal

pub returns : goal.returns
returns c =
    let made = c.decimal-k.ensures in
    decimal-put _
    c.decimal-k.result
    c.args.n _ (omega arith) made.len made.digits
    c.put_bytes.ensures
