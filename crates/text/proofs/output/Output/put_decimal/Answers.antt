use Rattle.text.specs.Text.{filled, decimal}
use Rattle.text.proofs.PutLaws.{stays_within}
use Rattle.text.proofs.output.Output.put_decimal.Goals as goal

pub invariant_of-self : goal.invariant_of-self
invariant_of-self c = stays_within (decimal c.args.n) (filled c.self.inside.at c.self.inside.out) (filled c.put_decimal-self-inside.result c.put_decimal-self-inside.new.out) c.self.invariant c.put_decimal-self-inside.ensures
