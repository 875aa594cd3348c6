use mathlib.Core.Path.{◌≡◌}
use lib.ListN.{length}
use borrow.Author.Rules.{rules}
use Rattle.frames.specs.Layout.{longest_token}
use Rattle.visit.proofs.RememberedLaws.{remembered-stored}
use Rattle.visit.proofs.remembered.put_remembered.Goals as goal
use Rattle.visit.proofs.remembered.put_remembered.Goals.{Start}

long : (c : Start) → length c.args.t.token ≡ longest_token
long c = search rules

pub returns : goal.returns
returns c = remembered-stored c.args.t c.args.frames.now _ (long (goal.at.returns c).Start) c.requires.0 c.requires.1 c.put_slice.ensures
