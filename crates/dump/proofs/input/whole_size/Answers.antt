use mathlib.Core.Path.{◌≡◌}
use borrow.Author.Rules.{rules}
use Rattle.dump.specs.Input.{whole_size}
use Rattle.dump.proofs.InputLaws.{whole-within, whole-short}
use Rattle.dump.proofs.input.whole_size.Goals as goal

pub returns : goal.returns
returns c =
    let s = c.args.stream.now in
    let value : c.filter.result ≡ whole_size s = search rules in
    record { value = value; bounds = rw value (whole-within s); stream_len_bound = rw value (whole-short s (rw c.framed_size.ensures.value at c.framed_size.ensures.upper_bound)) }
