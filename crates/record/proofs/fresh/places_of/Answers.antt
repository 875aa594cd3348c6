use Rattle.record.proofs.FreshLaws.{placed-over}
use Rattle.record.proofs.fresh.places_of.Goals as goal

pub returns : goal.returns
returns c = placed-over c.args.ids.now _ c.copy_from_slice.ensures.after
