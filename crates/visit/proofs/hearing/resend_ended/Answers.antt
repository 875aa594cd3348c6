use mathlib.Core.Path.{refl}
use Rattle.visit.specs.Message.{resend_ended}
use Rattle.visit.proofs.hearing.resend_ended.Goals as goal

pub returns : goal.returns
unfolding resend_ended
returns c = refl
