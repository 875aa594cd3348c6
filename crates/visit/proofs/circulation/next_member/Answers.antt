use mathlib.Core.Path.{◌∙◌}
use borrow.Author.Rules.{rules}
use Rattle.visit.proofs.CirculationLaws.{next-after, first-after, first-else}
use Rattle.visit.proofs.circulation.next_member.Goals as goal
use Rattle.visit.proofs.circulation.next_member.Goals.{in_default-via-in-Some+else-i-ids, in_default-via-in_default}

pub returns-in-Some : goal.returns-in-Some
returns-in-Some c =
    next-after _ _ _ _ (record { within = search rules; here = search rules; before = search rules }) c.if-i-ids.true

pub returns-in_default : goal.returns-in_default
returns-in_default c =
    c.representative_of.ensures ∙ elim c.in_default.branch [
      | in_default-via-in-Some+else-i-ids w ↦ first-after _ _ _ w.in-Some.i (record { within = search rules; here = search rules; before = search rules }) w.if-i-ids.false
      | in_default-via-in_default w ↦ first-else _ _ _ (search rules)
    ]
