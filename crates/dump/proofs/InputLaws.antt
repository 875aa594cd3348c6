-- Laws of a buffer of input.
use Prim.Native.Nat.{ℕ, ◌+◌, ◌-◌, ◌<◌, ◌≤◌}
use mathlib.Core.Path.{◌≡◌, refl}
use mathlib.Core.Bool.{Bool, true, false, cond}
use mathlib.Core.List.{List}
use borrow.Author.Tests.{leb-true, leb-false}
use lib.Dec.{leb}
use Rattle.std.specs.Prelude.{Option, Some, None, IfSome, IsNone}
use Rattle.frames.specs.Layout.{length_size, most_framed}
use Rattle.frames.specs.Header.{own_size, framed_size}
use Rattle.frames.proofs.Sizes.{framed-none}
use Rattle.dump.specs.Input.{come_whole, whole_size}
use native.Mathlib.Omega.{arith}
use lib.ListN.{length, take, drop, length-take, length-drop}

different : true ≡ false → ⊥
different e = let z : ◌≡◌ {A = ℕ} 0 1 = cc in omega arith

none-some : {n : ℕ} → None ≡ Some n → ⊥
none-some e = let z : ◌≡◌ {A = ℕ} 0 1 = cc in omega arith

-- ---- the frame that a stream begins with

come-within : (s : List ℕ) (n : ℕ) (b : Bool) → leb n (length s) ≡ b → 0 < n → IfSome (cond b (Some n) None) (λ k. (0 < k) × (k ≤ length s))
come-within s n true e some = (some, leb-true n (length s) e)
come-within s n false e some = tt

come-short : (s : List ℕ) (n : ℕ) (b : Bool) → leb n (length s) ≡ b → n ≤ most_framed → IsNone (cond b (Some n) None) → length s < most_framed
come-short s n true e most none = absurd (different none)
come-short s n false e most none = let less = leb-false n (length s) e in omega arith

module _ (s : List ℕ) where
  framed-more : (n : ℕ) → framed_size s ≡ Some n → 0 < n
  unfolding framed_size
  framed-more n e = go (leb length_size (length s)) e
    where
      go : (b : Bool) → cond b (Some (own_size s)) None ≡ Some n → 0 < n
      go true f = let same : own_size s ≡ n = cc in omega arith
      go false f = absurd (none-some f)

  within : (o : Option ℕ) → framed_size s ≡ o → IfSome (come_whole s o) (λ n. (0 < n) × (n ≤ length s))
  within None e = tt
  within (Some n) e = come-within s n (leb n (length s)) refl (framed-more n e)

  pub whole-within : IfSome (whole_size s) (λ n. (0 < n) × (n ≤ length s))
  whole-within = within (framed_size s) refl

  short : (o : Option ℕ) → framed_size s ≡ o → IfSome o (λ n. n ≤ most_framed) → IsNone (come_whole s o) → length s < most_framed
  short None e most none = omega (arith, framed-none s e)
  short (Some n) e most none = come-short s n (leb n (length s)) refl most none

  pub whole-short : IfSome (framed_size s) (λ n. n ≤ most_framed) → IsNone (whole_size s) → length s < most_framed
  whole-short = short (framed_size s) refl

-- what is left from `from` on, as the code spells it, is short
pub rest-short : (from most : ℕ) (s : List ℕ) → length (take (length s - from) (drop from s)) < most → length s < from + most
rest-short from most s h = let short = simp (length-take, length-drop) at h in omega arith
