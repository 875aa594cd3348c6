use Rattle.std.proofs.Common.{arith}
use Rattle.std.proofs.lemmas.Grind.{common_steps}
use Rattle.record.proofs.RoundTrip.{bytes-restored}
use Rattle.station.specs.Resend.{resent}
use Rattle.station.specs.Over.{resend_over}
use Rattle.station.proofs.LentLaws.{whole_long, whole_lent, alone}
use Rattle.station.proofs.resending.resend_in.Goals as goal

pub returns-in_err-ask-3 : goal.returns-in_err-ask-3
unfolding resend_over resent
returns-in_err-ask-3 c = grind (arith, whole_lent)

pub returns : goal.returns
unfolding resend_over resent
returns c =
    let same = bytes-restored c.args.s.now (λ i. omega (arith, c.type_inv.s i)) in
    grind (arith, common_steps, same, whole_long, whole_lent, alone)
