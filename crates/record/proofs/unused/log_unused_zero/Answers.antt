use mathlib.Core.Path.{◌≡◌}
use native.Mathlib.Omega.{arith}
use lib.ListN.{length}
use borrow.Author.Rules.{rules}
use Rattle.record.specs.Size.{most_held}
use Rattle.record.specs.Whole.{log_unused_zero}
use Rattle.record.proofs.unused.log_unused_zero.Goals as goal

pub contents_padded-requires : goal.contents_padded-requires
contents_padded-requires c =
    let lengths : length c.args.l.lengths ≡ most_held = search rules in
    omega (arith, lengths, c.told-contents)

pub returns : goal.returns
unfolding log_unused_zero
returns c = rw (c.zero_from.ensures, c.free_places_zero.ensures c.args.contents.now, c.contents_padded.ensures)
