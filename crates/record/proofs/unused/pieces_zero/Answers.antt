use Prim.Native.Nat.{ℕ, ◌+◌, ◌-◌}
use mathlib.Core.Path.{◌≡◌}
use native.Mathlib.Omega.{arith}
use Rattle.record.proofs.PieceLaws.{padded-by-pieces}
use Rattle.record.proofs.unused.pieces_zero.Goals as goal

pub returns : goal.returns
returns c =
    let found = padded-by-pieces c.args.s.now c.args.first _ _ c.told-s c.requires c.min-second.ensures c.min-third.ensures in
    let size = λ (n : ℕ). let e : n + 16 - n ≡ 16 = omega arith in e in
    rw (c.all_zero.ensures, c.all_zero-2.ensures, c.all_zero-3.ensures, c.all_zero-4.ensures, size c.args.first, size c.min-second.result, size c.min-third.result) found
