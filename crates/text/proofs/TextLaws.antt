-- Laws of the text of numbers.
use Prim.Native.Nat.{ℕ, zero, suc, ◌*◌, ◌-◌, ◌/◌, ◌%◌, ◌^◌, ◌<◌, ◌≤◌}
use mathlib.Core.Path.{◌≡◌}
use mathlib.Core.List.{List}
use native.Mathlib.Nat.{sub-zero, pow-succ', one-le-pow, mod-lt, mod-eq_of_lt}
use native.Mathlib.Omega.{arith}
use borrow.Author.Tests.{lt-ltb, le-ltb}
use lib.ListN.{take}
use Rattle.io.specs.Digits.{last_digits, IsDigitCount}
use Rattle.text.specs.Text.{Filled, put, piece, digits_to, decimal}

-- a number of two digits or more leaves room for one more
enough : (most n : ℕ) → 10 ≤ n → n < 10 ^ suc most → 1 ≤ most
enough zero n h room = absurd (omega arith)
enough (suc most) n h room = omega arith

-- the fewest digits that hold n are its digits
digits_decimal : (k most n : ℕ) → 1 ≤ most → n < 10 ^ most → IsDigitCount 10 1 n k → last_digits 10 k n ≡ digits_to most n
unfolding digits_to
digits_decimal zero most n h room f = absurd (omega arith)
digits_decimal (suc k) zero n h room f = absurd (omega arith)
digits_decimal (suc zero) (suc most) n h room f =
    let small : n < 10 = f.1 in
    rw (mod-eq_of_lt small, lt-ltb n 10 small)
digits_decimal (suc (suc k)) (suc most) n h room f =
    let up : 10 ^ suc (suc k) ≡ 10 * 10 ^ suc k = pow-succ' 10 (suc k) in
    let same : 10 ^ suc k ≡ 10 * 10 ^ k = pow-succ' 10 k in
    let top : 10 ^ suc most ≡ 10 * 10 ^ most = pow-succ' 10 most in
    let down : suc (suc k) - 1 ≡ suc k = omega arith in
    let down' : suc k - 1 ≡ k = omega arith in
    let one : 0 < 10 ^ k = one-le-pow k 10 (omega arith) in
    let large : 10 ^ suc k ≤ n = rw down at (f.2 (omega arith)) in
    let below : n / 10 < 10 ^ suc k = omega (arith, f.1) in
    let above : 10 ^ k ≤ n / 10 = omega arith in
    let room' : n / 10 < 10 ^ most = omega arith in
    let digit : n % 10 < 10 = mod-lt n (omega arith) in
    rw (digits_decimal (suc k) most (n / 10) (enough most n (omega arith) room) room' (omega arith, below, λ e. rw down' above), lt-ltb (n % 10) 10 digit, le-ltb n 10 (omega arith))

pub decimal-put : (before : Filled) {after : Filled} (k n : ℕ) (bytes : List ℕ)
    → n < 2 ^ 32
    → IsDigitCount 10 1 n k
    → take k bytes ≡ last_digits 10 k n
    → after ≡ put (piece (take (k - 0) bytes)) before
    → after ≡ put (decimal n) before
decimal-put before k n bytes h f e p = rw (sub-zero, e, digits_decimal k 10 n (omega arith) (omega arith) f) at p
