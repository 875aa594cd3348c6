use Rattle.text.specs.Text.{filled, piece}
use Rattle.text.proofs.PutLaws.{stays_within}
use Rattle.text.proofs.output.Output.put_bytes.Goals as goal

pub invariant_of-self : goal.invariant_of-self
invariant_of-self c = stays_within (piece c.args.bytes.now) (filled c.self.inside.at c.self.inside.out) (filled c.put_bytes-self-inside.result c.put_bytes-self-inside.new.out) c.self.invariant c.put_bytes-self-inside.ensures
