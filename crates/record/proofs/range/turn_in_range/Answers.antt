use Prim.Native.Nat.{◌<◌}
use mathlib.Core.Path.{◌≡◌}
use native.Mathlib.Omega.{arith}
use lib.ListN.{length}
use borrow.Author.Rules.{rules}
use Rattle.frames.specs.Layout.{longest_token}
use Rattle.record.proofs.RangeLaws.{turn-tested}
use Rattle.record.proofs.range.turn_in_range.Goals as goal

pub returns : goal.returns
returns c =
    let token : length c.args.t.token ≡ longest_token = search rules in
    let stall : c.args.t.stall < 256 = search rules in
    turn-tested c.args.t token (omega (arith, stall))
