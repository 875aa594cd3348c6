-- A loop over three lists of numbers, side by side.
use Prim.Native.Nat.{ℕ, ◌<◌, min}
use mathlib.Core.Path.{◌≡◌, ap, ◌∙◌}
use mathlib.Core.List.{List}
use native.Mathlib.Omega.{arith}
use denote.Ref.{Bor}
use lib.ListN.{length, get_or}
use Rattle.std.specs.declared.iter.Zip.{Zip}
use Rattle.std.specs.declared.slice.Iter.{Iter}
use Rattle.std.specs.Prelude.{Option, None, Some}
use Rattle.std.specs.Iterator.{Yields}
use Rattle.std.specs.Iterator.Adapters.{zip_first, zip_second}
use Rattle.std.specs.Slice.Iter.{iter_rest}
use Rattle.std.specs.List.{zip}
use Rattle.std.proofs.iter.Yields.{fronts}
use Rattle.std.proofs.lemmas.Iterator.{YieldsList, YieldsList-from_slice, YieldsList-from_zip, zips}
use Rattle.std.proofs.lemmas.Iterator.Consumers.{YieldsList-turn, YieldsList-end}
use Rattle.std.proofs.lemmas.Grind.{get_or_default_zero}
use Rattle.std.proofs.lemmas.Slice.Zip.{length-zip, get_or-zip}

abbrev Three : Type 0
Three = Zip (Zip (Iter ℕ) (Iter ℕ)) (Iter ℕ)

abbrev Item : Type 0
Item = (Bor ℕ × Bor ℕ) × Bor ℕ

abbrev steps : Three → Option Item → Three → Type 0
steps = zips (zips fronts fronts) fronts

module _ (ks ls ms : List ℕ) (xs : List Item) (s t u : Three) (r : Option Item)
    (first : iter_rest (zip_first (zip_first s)) ≡ ks) (second : iter_rest (zip_second (zip_first s)) ≡ ls) (third : iter_rest (zip_second s) ≡ ms)
    (y : Yields steps s xs t) where
  all : YieldsList steps (λ p. ((p.0.0.now, p.0.1.now), p.1.now)) s (zip (zip ks ls) ms)
  all = YieldsList-from_zip (YieldsList-from_zip (YieldsList-from_slice ks first) (YieldsList-from_slice ls second)) (YieldsList-from_slice ms third)

  pub three_turn : (p : Item) → r ≡ Some p → steps t r u
      → (length xs < length ks) × (p.0.0.now ≡ get_or ks (length xs) 0) × (p.0.1.now ≡ get_or ls (length xs) 0) × (p.1.now ≡ get_or ms (length xs) 0)
  three_turn p e h =
      let n = length xs in
      let turn = YieldsList-turn all xs t y r u p e h in
      let long : n < min (min (length ks) (length ls)) (length ms) = omega (arith, turn.0, length-zip (zip ks ls) ms, length-zip ks ls) in
      let at = turn.1 ∙ get_or-zip (zip ks ls) ms n _ (omega (arith, long, length-zip ks ls)) (omega arith) in
      let front = ap (λ w. w.0) at ∙ get_or-zip ks ls n _ (omega arith) (omega arith) in
      (omega arith, ap (λ w. w.0) front ∙ get_or_default_zero ks n _ (omega arith), ap (λ w. w.1) front ∙ get_or_default_zero ls n _ (omega arith), ap (λ w. w.1) at ∙ get_or_default_zero ms n _ (omega arith))

  pub three_end : r ≡ None → steps t r u → length xs ≡ min (min (length ks) (length ls)) (length ms)
  three_end e h = (YieldsList-end all xs t y r u e h).1 ∙ length-zip (zip ks ls) ms ∙ ap (λ n. min n (length ms)) (length-zip ks ls)
