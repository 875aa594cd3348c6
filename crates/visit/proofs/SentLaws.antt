-- Bytes and frames are written one after the other.
use Prim.Native.Nat.{ℕ, ◌+◌}
use mathlib.Core.Path.{◌≡◌, ◌∙◌}
use mathlib.Core.List.{List, ◌++◌}
use native.Mathlib.Nat.{zero-add}
use lib.ListN.{length, length-append}
use lib.Seq.{sets}
use Rattle.words.proofs.StoreLaws.{sets-append}

-- bytes put at the front, and others behind them
pub put_then : (a b out out₁ out₂ : List ℕ) (at end : ℕ)
    → (at ≡ 0 + length a) × (out₁ ≡ sets out 0 a)
    → (end ≡ at + length b) × (out₂ ≡ sets out₁ at b)
    → (end ≡ length (a ++ b)) × (out₂ ≡ sets out 0 (a ++ b))
put_then a b out out₁ out₂ at end first second =
    let here : at ≡ length a = first.0 ∙ zero-add (length a) in (
      second.0 ∙ rw (here, length-append),
      second.1 ∙ rw (first.1, first.0, sets-append),
    )
