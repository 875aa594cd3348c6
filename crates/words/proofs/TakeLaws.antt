-- The first n of a slice, or all where there are fewer, as code spells it: `xs.get(..n).unwrap_or(xs)`.
use Prim.Native.Nat.{ℕ}
use mathlib.Core.Path.{◌≡◌, sym}
use mathlib.Core.List.{List}
use native.Mathlib.Nat.{sub-zero}
use native.Mathlib.Omega.{arith}
use lib.ListN.{take}
use lib.Seq.{take_all}
use Rattle.std.proofs.Common.{Bor, Option, None, Some}
use Rattle.std.specs.Option.{unwrap_or}
use Rattle.std.specs.Slice.{IsGetRangeResult}

pub first_taken : {A : Type 0} (n : ℕ) (xs : Bor (List A)) (r : Option (Bor (List A))) → IsGetRangeResult xs.now 0 n r → (unwrap_or r xs).now ≡ take n xs.now
first_taken n xs None g = sym (take_all n xs.now (omega arith))
first_taken n xs (Some x) g = simp sub-zero at g.0.2
