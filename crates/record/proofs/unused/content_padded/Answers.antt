use mathlib.Core.Path.{◌≡◌}
use lib.ListN.{length}
use borrow.Author.Rules.{rules}
use Rattle.frames.specs.Layout.{most_content}
use Rattle.record.proofs.PieceLaws.{past_all, padded-by-limits}
use Rattle.record.proofs.unused.content_padded.Goals as goal

pub returns-then-n-eq0 : goal.returns-then-n-eq0
returns-then-n-eq0 c = rw c.if-n-eq0.true c.all_zero.ensures

pub returns-then-first-ge-MOST_CONTENT : goal.returns-then-first-ge-MOST_CONTENT
returns-then-first-ge-MOST_CONTENT c = past_all _ _ (search rules) c.if-first-ge-MOST_CONTENT.true

pub returns : goal.returns
returns c =
    let long : length c.args.s.now ≡ most_content = search rules in
    padded-by-limits c.args.s.now c.args.n long c.fits-s c.if-first-le-LAST_PIECE.false c.if-first-ge-MOST_CONTENT.false _ c.within_limits.ensures
