use Rattle.words.proofs.StoreLaws.{part-stored}
use Rattle.words.proofs.run.get_slice.Goals as goal

pub returns : goal.returns
returns g c = part-stored c.args.at c.args.n c.args.s.now c.args.out.now _ c.requires.0 c.requires.1 c.put_slice.ensures
