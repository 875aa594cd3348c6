use Rattle.std.proofs.Common.{refl}
use Rattle.record.specs.Members.{ids_follow}
use Rattle.record.proofs.members.ids_follow.Goals as goal

pub returns : goal.returns
unfolding ids_follow
returns c = rw (c.all_within.ensures, c.distinct.ensures, c.all_within-2.ensures, c.representative_of.ensures) refl
