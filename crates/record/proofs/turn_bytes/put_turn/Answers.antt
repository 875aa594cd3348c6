use mathlib.Core.Path.{◌≡◌}
use native.Mathlib.Omega.{arith}
use lib.ListN.{length}
use borrow.Author.Rules.{rules}
use Rattle.record.proofs.PutLaws.{turn-stored}
use Rattle.frames.specs.Layout.{longest_token}
use Rattle.record.proofs.turn_bytes.put_turn.Goals as goal

pub slice_bounds-put_slice-end : goal.slice_bounds-put_slice-end
slice_bounds-put_slice-end c =
    search rules

pub put_slice-requires : goal.put_slice-requires
put_slice-requires c =
    let long : length c.args.t.token ≡ longest_token =
    search rules in
    omega (arith, c.requires)

pub returns : goal.returns
returns c = turn-stored _ _ _ _ _ _ _ _ _ _ _
    c.put.ensures
    c.put-2.ensures
    c.put-3.ensures
    c.put-4.ensures
    c.put-5.ensures
    c.put-6.ensures
    c.put-7.ensures
    c.put_slice.ensures
