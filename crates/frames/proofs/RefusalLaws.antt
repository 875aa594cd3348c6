-- A refusal's number is one of its own, and none is 0.
use Prim.Native.Nat.{ℕ}
use mathlib.Core.Path.{◌≡◌, refl, sym, ap, ◌∙◌}
use mathlib.Core.Bool.{cond}
use native.Mathlib.Omega.{arith}
use lib.Dec.{eqb}
use Rattle.frames.specs.Refusal.{frame_refusal_number}
use Rattle.frames.specs.declared.refusal.Refusal.{Refusal}
use Rattle.frames.specs.declared.refusal.Refusal.TheVariants.{NoRoom, WrongLength, OtherKind, Malformed}

pub some_number : (why : Refusal) → frame_refusal_number why ≡ 0 → ⊥
some_number NoRoom e = omega arith
some_number WrongLength e = omega arith
some_number OtherKind e = omega arith
some_number Malformed e = omega arith

-- the refusal that a number is of
named : ℕ → Refusal
named n = cond (eqb n 1) NoRoom (cond (eqb n 10) WrongLength (cond (eqb n 11) OtherKind Malformed))

named-number : (why : Refusal) → named (frame_refusal_number why) ≡ why
unfolding named
named-number NoRoom = refl
named-number WrongLength = refl
named-number OtherKind = refl
named-number Malformed = refl

pub number-fixes : (a b : Refusal) → frame_refusal_number a ≡ frame_refusal_number b → a ≡ b
number-fixes a b e = sym (named-number a) ∙ ap named e ∙ named-number b
