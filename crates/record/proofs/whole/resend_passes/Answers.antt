use mathlib.Core.Path.{◌≡◌}
use native.Mathlib.Omega.{arith}
use lib.ListN.{length}
use borrow.Author.Rules.{rules}
use Rattle.frames.specs.Layout.{longest_token}
use Rattle.record.proofs.MemberLaws.{leave_none, leave-some}
use Rattle.record.proofs.whole.resend_passes.Goals as goal

pub returns-then-t-eq0 : goal.returns-then-t-eq0
returns-then-t-eq0 c = leave_none _ _ _ c.if-t-eq0.true

pub slice_bounds-token_passes-end : goal.slice_bounds-token_passes-end
slice_bounds-token_passes-end c =
    let start = c.args in
    let long : length start.t.token ≡ longest_token = search rules in
    omega (arith, long)

pub returns : goal.returns
returns c = leave-some _ _ _ _ c.if-t-eq0.false c.token_passes.ensures
