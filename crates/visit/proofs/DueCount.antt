-- The messages that are due, counted one by one, and handed out as a run of numbers.
use Prim.Native.Nat.{ℕ, zero, suc, ◌+◌, ◌-◌, ◌<◌, ◌≤◌}
use mathlib.Core.Path.{◌≡◌, refl, sym, ap, ◌∙◌}
use mathlib.Core.Bool.{Bool, true, false, cond}
use mathlib.Core.List.{List, [], ◌∷◌, map}
use native.Mathlib.Numerals.{add-one}
use native.Mathlib.Omega.{arith}
use lib.ListN.{length}
use lib.Seq.{sets}
use Rattle.words.proofs.StoreLaws.{front-stored}
use Rattle.frames.specs.Number.{most_number}
use Rattle.record.specs.Size.{most_held}
use Rattle.record.specs.Held.{holds}
use Rattle.record.specs.declared.log.Log.{Log}
use Rattle.record.proofs.WholeFacts.{LogGood}
use Rattle.visit.specs.Output.{followed_by, most_deliveries}
use Rattle.visit.specs.Deliver.{frame_of, joined, is_due, due, handed_out}
use Rattle.record.specs.Count.{numbers_after}
use Rattle.visit.proofs.DueLaws.{due_from, due-is, due-most}
use Rattle.visit.proofs.FrameLaws.{Writable, handed-fits}
use Rattle.visit.proofs.LogSteps.{level-window}

-- ---- one by one

due-stops : (l : Log) (safe n left : ℕ) → is_due l safe n ≡ false → due_from l safe n left ≡ []
unfolding due_from
due-stops l safe n zero e = refl
due-stops l safe n (suc left) e = rw e

due-goes : (l : Log) (safe n left : ℕ) → is_due l safe n ≡ true → due_from l safe n (suc left) ≡ n ∷ due_from l safe (suc n) left
unfolding due_from
due-goes l safe n left e = rw e

-- those up to `last` are counted
pub record Counted (l : Log) (safe last : ℕ) : Type 0 where
  pub low : l.delivered.0 ≤ last
  pub is : last - l.delivered.0 + length (due_from l safe (suc last) (l.level.0 - last)) ≡ length (due l safe)

module _ (l : Log) (safe : ℕ) where
  pub count-starts : Counted l safe l.delivered.0
  count-starts = record { low = omega arith; is = let same = ap length (due-is l safe) in omega arith }

  module _ (last : ℕ) (k : Counted l safe last) where
    pub count-stops : is_due l safe (last + 1) ≡ false → last - l.delivered.0 ≡ length (due l safe)
    count-stops e =
        let none = due-stops l safe (suc last) (l.level.0 - last) (rw add-one at e) in
        omega (arith, rw none at k.is)

    pub count-goes : last < l.level.0 → is_due l safe (last + 1) ≡ true → Counted l safe (last + 1)
    count-goes h e =
        let left : l.level.0 - last ≡ suc (l.level.0 - suc last) = omega arith in
        let more = due-goes l safe (suc last) (l.level.0 - suc last) (rw add-one at e) in
        let is = rw (left, more) at k.is in
        rw (add-one last) (record { low = omega (arith, k.low); is = omega (arith, k.low, is) })

    pub count-ends : l.level.0 ≤ last → l.level.0 - l.delivered.0 ≡ length (due l safe)
    unfolding due_from
    count-ends h =
        let none : l.level.0 - last ≡ 0 = omega arith in
        omega (arith, rw none at k.is, due-most l safe)

-- ---- a run of numbers

run-from : (l : Log) (safe n left : ℕ) → due_from l safe (suc n) left ≡ numbers_after n (length (due_from l safe (suc n) left))
unfolding due_from numbers_after
run-from l safe n zero = refl
run-from l safe n (suc left) = go (is_due l safe (suc n)) (run-from l safe (suc n) left)
  where
    go : (b : Bool)
        → due_from l safe (suc (suc n)) left ≡ numbers_after (suc n) (length (due_from l safe (suc (suc n)) left))
        → cond b (suc n ∷ due_from l safe (suc (suc n)) left) [] ≡ numbers_after n (length (cond b (suc n ∷ due_from l safe (suc (suc n)) left) []))
    go true e = ap (λ rest. suc n ∷ rest) e
    go false e = refl

-- the n numbers after the delivered mark can be handed out
pub record RunFits (l : Log) (n : ℕ) : Type 0 where
  pub held : (k : ℕ) → l.delivered.0 < k → k ≤ l.delivered.0 + n → holds l k ≡ true
  pub most : l.delivered.0 + n ≤ most_number
  pub few : n ≤ most_held

module _ (l : Log) (safe n : ℕ) (counted : n ≡ length (due l safe)) where
  due-run : numbers_after l.delivered.0 n ≡ due l safe
  due-run = rw (counted, due-is l safe) (sym (run-from l safe l.delivered.0 (l.level.0 - l.delivered.0)))

  pub due-fits : LogGood l → RunFits l n
  due-fits g =
      let marks = g.ready.marks in
      let upto : l.delivered.0 + n ≤ l.level.0 = omega (arith, due-most l safe, marks.level-last) in
      record {
        held = λ k above below. marks.to_level k (omega (arith, marks.safe_first)) (omega arith);
        most = omega (arith, marks.level-most);
        few = omega (arith, level-window l marks, marks.safe_first);
      }

  pub run-handed : (size : ℕ) (out out' : List ℕ)
      → Writable l
      → most_deliveries ≤ length out
      → size ≡ length (joined (map (frame_of l) (numbers_after l.delivered.0 n)))
      → out' ≡ sets out 0 (joined (map (frame_of l) (numbers_after l.delivered.0 n)))
      → (n ≡ length (due l safe)) × (size ≡ length (handed_out l safe)) × (out' ≡ followed_by (handed_out l safe) out)
  run-handed size out out' w room s o = (
    counted,
    rw due-run at s,
    rw due-run at o ∙ front-stored (length (handed_out l safe)) (handed_out l safe) out refl (omega (arith, handed-fits l w safe)),
  )
