-- Bytes cut into frames, one after another.
use Prim.Native.Nat.{ℕ, zero, suc, ◌-◌, ◌<◌, ◌≤◌, min}
use mathlib.Core.Path.{◌≡◌, refl, sym, ap, ◌∙◌}
use mathlib.Core.List.{List, [], ◌∷◌}
use borrow.Author.Tests.{eq-eqb, ne_eqb}
use native.Mathlib.Omega.{arith}
use lib.ListN.{length, take, drop, length-take, length-drop}
use lib.Seq.{take_all}
use Rattle.frames.specs.Header.{own_size, framed_size}
use Rattle.frames.proofs.Sizes.{framed-none, framed-is}
use Rattle.visit.specs.Within.{frames_up_to, frames_in}
use Rattle.std.specs.Prelude.{Option, Some, None}
use Rattle.std.proofs.lemmas.List.{take_min, drop_min}

-- ---- how long the first frame is, as the code finds it

-- it runs past the end
whole-first : (s : List ℕ) → length s ≤ own_size s → length s ≡ length (take (own_size s) s)
whole-first s h = sym (ap length (take_all (own_size s) s h))

module _ (s : List ℕ) (size : Option ℕ) (e : size ≡ framed_size s) where
  pub size_none : size ≡ None → length s ≡ length (take (own_size s) s)
  size_none z = whole-first s (omega (arith, framed-none s (sym e ∙ z)))

  -- where the length field is there, the size is by it
  pub size-some : (n : ℕ) → size ≡ Some n → (min n (length s) ≡ length (take (own_size s) s)) × (0 < n)
  size-some n f = let own = framed-is s n (sym e ∙ f) in (rw own (sym (length-take n s)), omega (arith, own))

-- ---- no more frames than bytes are looked for

enough : (m n : ℕ) (s : List ℕ) → length s ≤ m → length s ≤ n → frames_up_to m s ≡ frames_up_to n s
unfolding frames_up_to
enough zero zero s h k = refl
enough zero (suc n) s h k = rw (eq-eqb (length s) 0 (omega arith))
enough (suc m) zero s h k = rw (eq-eqb (length s) 0 (omega arith))
enough (suc m) (suc n) s h k =
    let some : length (drop (own_size s) s) ≤ length s - 1 = simp length-drop (omega arith) in
    rw (enough m n (drop (own_size s) s) (omega arith) (omega arith))

up_to : (m : ℕ) (s : List ℕ) → 0 < length s → length s ≡ suc m → frames_up_to (suc m) s ≡ take (own_size s) s ∷ frames_up_to m (drop (own_size s) s)
unfolding frames_up_to
up_to m s h e = rw (ne_eqb (length s) 0 (omega arith))

-- the first frame, and those within the rest
pub cut : (s : List ℕ) → 0 < length s → frames_in s ≡ take (own_size s) s ∷ frames_in (drop (own_size s) s)
unfolding frames_in
cut s h =
    let e : length s ≡ suc (length s - 1) = omega arith in
    let rest = drop (own_size s) s in
    let few : length rest ≤ length s - 1 = simp length-drop (omega arith) in
    rw (e, up_to (length s - 1) s h e, enough (length s - 1) (length rest) rest few (omega arith))

pub cut-none : frames_in [] ≡ []
unfolding frames_in frames_up_to
cut-none = refl

pub none-left : (s : List ℕ) → length s ≡ 0 → frames_in s ≡ []
none-left [] e = cut-none
none-left (x ∷ s) e = absurd (omega arith)

-- a first frame of k bytes
pub cut_at : (s : List ℕ) (k : ℕ) → 0 < length s → k ≡ length (take (own_size s) s) → frames_in s ≡ take k s ∷ frames_in (drop k s)
cut_at s k h e =
    let clamped : k ≡ min (own_size s) (length s) = e ∙ length-take (own_size s) s in
    rw (clamped, take_min (own_size s) s, drop_min (own_size s) s) (cut s h)
