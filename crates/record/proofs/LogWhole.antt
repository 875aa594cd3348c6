-- What a log holds is good: storing a message under a free number and letting go keep it so.
use Prim.Native.Nat.{ℕ, suc, ◌+◌, ◌-◌, ◌<◌, ◌≤◌}
use mathlib.Core.Path.{◌≡◌, refl, sym, ◌∙◌}
use mathlib.Core.Logic.{◌≢◌}
use mathlib.Core.Bool.{Bool, true, false, ◌||◌, false≢true, and-false}
use borrow.Author.Tests.{leb-true, ltb-true, eqb-false, ne_eqb, lt-ltb, le-leb, not-true}
use native.Mathlib.Decide.{ℕ_discrete}
use native.Mathlib.Omega.{arith}
use lib.ListN.{get_or, length-take}
use lib.Dec.{leb, ltb, eqb}
use Rattle.frames.specs.Number.{most_number}
use Rattle.frames.proofs.Facts.{part}
use Rattle.record.specs.Size.{most_held}
use Rattle.record.specs.Ring.{ids}
use Rattle.record.specs.Held.{Entry, place_of, in_use, entry_at, holds, stored, let_go}
use Rattle.record.specs.declared.log.Log.{Log}
use Rattle.record.proofs.HeldLaws.{held-sizes, holds-stored, holds-let-go}
use Rattle.record.proofs.HeldWhole.{EntryGood, HeldGood, with-good, cleared-from-good}

-- ---- what the test tells

pub record Holding (l : Log) (n : ℕ) : Type 0 where
  pub low : l.safe.0 < n
  pub high : n ≤ l.safe.0 + most_held
  pub named : get_or l.held.senders (place_of n) 0 ≢ 0

pub holding : (l : Log) (n : ℕ) → holds l n ≡ true → Holding l n
unfolding holds
holding l n e =
    record {
      low = ltb-true l.safe.0 n (part e (λ (f : ltb l.safe.0 n ≡ false). rw f));
      high = leb-true n (l.safe.0 + most_held) (part e (λ (f : leb n (l.safe.0 + most_held) ≡ false). simp (f, and-false)));
      named = eqb-false (get_or l.held.senders (place_of n) 0) 0 (not-true (eqb (get_or l.held.senders (place_of n) 0) 0) (part e (λ (f : in_use l.held (place_of n) ≡ false). simp (f, and-false))));
    }

pub held-when : (l : Log) (n : ℕ) → Holding l n → holds l n ≡ true
unfolding holds
held-when l n h =
    rw (
      lt-ltb l.safe.0 n h.low,
      le-leb n (l.safe.0 + most_held) h.high,
      ne_eqb (get_or l.held.senders (place_of n) 0) 0 h.named,
    )

pub not-held : (l : Log) (n : ℕ) → (holds l n ≡ true → ⊥) → holds l n ≡ false
not-held l n not = go (holds l n) refl
  where
    go : (b : Bool) → holds l n ≡ b → holds l n ≡ false
    go true e = absurd (not e)
    go false e = e

-- a number of the window that is not held has a free place
pub free-place : (l : Log) (n : ℕ) → holds l n ≡ false → l.safe.0 < n → n ≤ l.safe.0 + most_held → get_or l.held.senders (place_of n) 0 ≡ 0
free-place l n e low high =
    elim (ℕ_discrete (get_or l.held.senders (place_of n) 0) 0) [
      | yes q ↦ q
      | no q ↦ absurd (false≢true (sym e ∙ held-when l n (record { low = low; high = high; named = q })))
    ]

-- ---- what is held is good

pub record StockGood (l : Log) : Type 0 where
  pub held : HeldGood (ids l) l.held
  pub numbers : (n : ℕ) → holds l n ≡ true → n ≤ most_number

-- so is each message
pub entry-good : (l : Log) (n : ℕ) → StockGood l → holds l n ≡ true → EntryGood (ids l) (entry_at l.held (place_of n))
entry-good l n good e =
    let h = holding l n e in
    let r = good.held.range in
    record {
      named = h.named;
      sender = r.senders (place_of n);
      member = good.held.known (place_of n) h.named;
      service = r.services (place_of n);
      short = simp length-take (omega (arith, r.lengths (place_of n)));
    }

-- the second of two tests, where the first fails
pub either : (a b : Bool) → a || b ≡ true → a ≡ false → b ≡ true
either a b e f = rw f at e

-- ---- one more, under a free number of the window

pub stored-good : (l : Log) (number : ℕ) (e : Entry)
    → StockGood l
    → holds l number ≡ false
    → l.safe.0 < number
    → number ≤ l.safe.0 + most_held
    → number ≤ most_number
    → EntryGood (ids l) e
    → StockGood (stored l number e)
stored-good l number e good free low high most fits =
    record {
      held = with-good (ids l) l.held (place_of number) e good.held (omega arith) (free-place l number free low high) fits;
      numbers = numbers;
    }
  where
    numbers : (n : ℕ) → holds (stored l number e) n ≡ true → n ≤ most_number
    numbers n held =
        let told = rw (holds-stored l number e (held-sizes l.held good.held.range) low high fits.named fits.short n) at held in
        elim (ℕ_discrete n number) [
          | yes q ↦ omega arith
          | no q ↦ good.numbers n (either (eqb n number) (holds l n) told (ne_eqb n number q))
        ]

-- ---- everything up to a new safe mark is let go

pub let-go-good : (l : Log) (safe : ℕ) → StockGood l → l.safe.0 ≤ safe → safe ≤ l.safe.0 + most_held → StockGood (let_go l safe)
unfolding let_go
let-go-good l safe good low high =
    record {
      held = cleared-from-good (ids l) l.held (suc l.safe.0) (safe - l.safe.0) good.held;
      numbers = λ n held. good.numbers n (part (rw (holds-let-go l safe (held-sizes l.held good.held.range) low high n) at held) (λ (f : holds l n ≡ false). simp (f, and-false)));
    }
