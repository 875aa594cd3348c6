-- Frames that stand one after another are found again, each by its own length field.
use Prim.Native.Nat.{ℕ, zero, suc, ◌≤◌}
use mathlib.Core.Path.{◌≡◌, refl, sym}
use mathlib.Core.List.{List, [], ◌∷◌, ◌++◌, flatten}
use borrow.Author.Tests.{ne_eqb}
use native.Mathlib.Omega.{arith}
use lib.ListN.{length, length-append}
use lib.Seq.{take-append-le, take_at, drop_at}
use Rattle.words.specs.Word.{word_at}
use Rattle.frames.specs.Header.{own_size}
use Rattle.frames.proofs.Rewritten.{Exact}
use Rattle.visit.specs.Deliver.{joined}
use Rattle.visit.specs.Within.{frames_up_to, frames_in}
use Rattle.visit.specs.Reads.{Each}

first-size : (f rest : List ℕ) → Exact f → own_size (f ++ rest) ≡ length f
unfolding word_at
first-size f rest exact = rw (take-append-le 2 f rest (omega (arith, exact.long))) (sym exact.size)

found-up-to : (most : ℕ) (frames : List (List ℕ)) → Each Exact frames → length (joined frames) ≤ most → frames_up_to most (joined frames) ≡ frames
unfolding frames_up_to flatten
found-up-to zero [] all fits = refl
found-up-to (suc most) [] all fits = refl
found-up-to zero (f ∷ frames) all fits = absurd (omega (arith, length-append f (joined frames), all.0.long))
found-up-to (suc most) (f ∷ frames) all fits =
    let rest = joined frames in
    let long = length-append f rest in
    let some : length (f ++ rest) ≡ 0 → ⊥ = omega (arith, all.0.long) in
    rw (
      ne_eqb (length (f ++ rest)) 0 some,
      first-size f rest all.0,
      take_at f rest (length f) refl,
      drop_at f rest (length f) refl,
      found-up-to most frames all.1 (omega (arith, all.0.long)),
    )

pub frames-within : (frames : List (List ℕ)) → Each Exact frames → frames_in (joined frames) ≡ frames
unfolding frames_in
frames-within frames all = found-up-to (length (joined frames)) frames all (omega arith)
