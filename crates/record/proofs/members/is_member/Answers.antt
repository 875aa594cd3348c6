use mathlib.Core.Path.{◌∙◌}
use Rattle.record.proofs.MemberLaws.{member-any}
use Rattle.record.proofs.members.is_member.Goals as goal

pub returns : goal.returns
returns c = c.contains.ensures.value ∙ member-any _ _
