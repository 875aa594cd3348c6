use mathlib.Core.Path.{◌≡◌}
use native.Mathlib.Omega.{arith}
use lib.ListN.{length}
use borrow.Author.Rules.{rules}
use Rattle.record.specs.Size.{most_posts}
use Rattle.record.specs.Whole.{posts_unused_zero}
use Rattle.record.proofs.unused.posts_unused_zero.Goals as goal

pub contents_padded-requires : goal.contents_padded-requires
contents_padded-requires c =
    let lengths : length c.args.p.lengths ≡ most_posts = search rules in
    omega (arith, lengths, c.told-waiting)

pub returns : goal.returns
unfolding posts_unused_zero
returns c = rw (c.zero_from.ensures, c.zero_from-2.ensures, c.contents_padded.ensures)
