-- Which messages are handed out: some that wait up to the level, and at least all up to the safe mark.
use Prim.Native.Nat.{ℕ, zero, suc, ◌+◌, ◌-◌, ◌≤◌}
use mathlib.Core.Path.{◌≡◌, refl, ap}
use mathlib.Core.Bool.{Bool, true, false, cond, or-true}
use mathlib.Core.List.{List, [], ◌∷◌}
use borrow.Author.Tests.{le-leb}
use native.Mathlib.Decide.{dec_lt}
use native.Mathlib.Omega.{arith}
use lib.ListN.{length}
use Rattle.record.specs.declared.log.Log.{Log}
use Rattle.record.specs.Count.{numbers_after}
use Rattle.visit.specs.Deliver.{is_due, take_while, due}
use Rattle.visit.specs.Reads.{Each}
use Rattle.visit.proofs.EachLaws.{Between, each_map}

-- the numbers from n on that are handed out, of `left` of them
unfoldable pub due_from : Log → ℕ → ℕ → ℕ → List ℕ
due_from l safe n zero = []
due_from l safe n (suc left) = cond (is_due l safe n) (n ∷ due_from l safe (suc n) left) []

while-due : (l : Log) (safe last left : ℕ) → take_while (is_due l safe) (numbers_after last left) ≡ due_from l safe (suc last) left
unfolding take_while numbers_after due_from
while-due l safe last zero = refl
while-due l safe last (suc left) = ap (λ (ns : List ℕ). cond (is_due l safe (suc last)) (suc last ∷ ns) []) (while-due l safe (suc last) left)

pub due-is : (l : Log) (safe : ℕ) → due l safe ≡ due_from l safe (suc l.delivered.0) (l.level.0 - l.delivered.0)
unfolding due
due-is l safe = while-due l safe l.delivered.0 (l.level.0 - l.delivered.0)

few-from : (l : Log) (safe n left : ℕ) → length (due_from l safe n left) ≤ left
unfolding due_from
few-from l safe n zero = omega arith
few-from l safe n (suc left) = go (is_due l safe n) (few-from l safe (suc n) left)
  where
    go : (b : Bool) → length (due_from l safe (suc n) left) ≤ left → length (cond b (n ∷ due_from l safe (suc n) left) []) ≤ suc left
    go true h = omega arith
    go false h = omega arith

-- a number up to the safe mark is handed out
due-safe : (l : Log) (safe n : ℕ) → n ≤ safe → is_due l safe n ≡ true
due-safe l safe n h = simp (le-leb n safe h, or-true)

least-from : (l : Log) (safe n left m : ℕ) → n + m ≤ suc safe → m ≤ left → m ≤ length (due_from l safe n left)
unfolding due_from
least-from l safe n left zero h k = omega arith
least-from l safe n zero (suc m) h k = absurd (omega arith)
least-from l safe n (suc left) (suc m) h k =
    let rest = least-from l safe (suc n) left m (omega arith) (omega arith) in
    rw (due-safe l safe n (omega arith)) (omega arith)

-- each is above the first's predecessor, and up to the last
pub due-between : (l : Log) (safe n left : ℕ) → Each (Between n (n + left)) (due_from l safe (suc n) left)
unfolding due_from
due-between l safe n zero = tt
due-between l safe n (suc left) = go (is_due l safe (suc n)) (due-between l safe (suc n) left)
  where
    go : (b : Bool) → Each (Between (suc n) (suc n + left)) (due_from l safe (suc (suc n)) left) → Each (Between n (n + suc left)) (cond b (suc n ∷ due_from l safe (suc (suc n)) left) [])
    go true rest = (
      record { above = omega arith; upto = omega arith },
      each_map (Between (suc n) (suc n + left)) (Between n (n + suc left)) (due_from l safe (suc (suc n)) left) (λ x b. record { above = omega (arith, b.above); upto = omega (arith, b.upto) }) rest,
    )
    go false rest = tt

module _ (l : Log) (safe : ℕ) where
  pub due-most : length (due l safe) ≤ l.level.0 - l.delivered.0
  due-most = rw (due-is l safe) (few-from l safe (suc l.delivered.0) (l.level.0 - l.delivered.0))

  pub due-least : safe ≤ l.level.0 → safe ≤ l.delivered.0 + length (due l safe)
  due-least h =
      rw (due-is l safe)
      (elim (dec_lt l.delivered.0 safe) [
        | yes k ↦
            let most = least-from l safe (suc l.delivered.0) (l.level.0 - l.delivered.0) (safe - l.delivered.0) (omega arith) (omega arith) in
            omega arith
        | no k ↦ omega arith
      ])
