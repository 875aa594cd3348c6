use Rattle.record.specs.Held.{held_with}
use Rattle.record.proofs.held.store.Goals as goal

pub returns : goal.returns
unfolding held_with
returns c = rw (c.put_content.ensures, c.place_of-place.ensures)
