use Rattle.ring.proofs.places.MemberLaws.{ids-odd, ids-even}
use native.Mathlib.Omega.{arith}
use Rattle.ring.proofs.members.id_count.Goals as goal

pub returns-then-members-ne0 : goal.returns-then-members-ne0
returns-then-members-ne0 c = ids-odd c.args.members.now (omega arith)

pub returns : goal.returns
returns c = ids-even c.args.members.now (omega arith)
