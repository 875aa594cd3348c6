-- Letting go, number by number: what is left to clear decides the whole.
use Prim.Native.Nat.{ℕ, zero, suc, ◌+◌, ◌-◌, ◌<◌, ◌≤◌}
use mathlib.Core.Path.{◌≡◌}
use native.Mathlib.Numerals.{add-one}
use native.Mathlib.Omega.{arith}
use Rattle.record.specs.Held.{place_of, cleared, cleared_from}
use Rattle.record.specs.declared.head.LogHead.{LogHead}
use Rattle.record.specs.declared.log.Held.{Held}

pub clear-starts : (h : Held) (safe last : ℕ) → cleared_from h (safe + 1) (last + 1 - (safe + 1)) ≡ cleared_from h (suc safe) (last - safe)
clear-starts h safe last =
    let many : last + 1 - (safe + 1) ≡ last - safe = omega arith in
    rw (many, add-one safe)

module _ (h : Held) (n last : ℕ) where
  pub clear-goes : n < last + 1 → cleared_from h n (last + 1 - n) ≡ cleared_from (cleared h (place_of n)) (n + 1) (last + 1 - (n + 1))
  unfolding cleared_from
  clear-goes more =
      let left : last + 1 - n ≡ suc (last + 1 - (n + 1)) = omega arith in
      rw (left, add-one n)

  pub clear-ends : last + 1 ≤ n → cleared_from h n (last + 1 - n) ≡ h
  unfolding cleared_from
  clear-ends done =
      let left : last + 1 - n ≡ zero = omega arith in
      rw left

-- no field but those of the places is changed
pub record SameRing (l log : LogHead) : Type 0 where
  pub ring : log.ring ≡ l.ring
  pub count : log.count ≡ l.count
  pub members : log.members ≡ l.members
  pub level : log.level ≡ l.level
  pub delivered : log.delivered ≡ l.delivered
