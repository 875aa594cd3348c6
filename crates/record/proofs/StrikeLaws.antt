-- Ids are struck out of a list, one after another: what is left.
use Prim.Native.Nat.{ℕ, zero, suc, ◌+◌, ◌<◌, ◌≤◌}
use mathlib.Core.Path.{◌≡◌, refl, sym, ap, ◌∙◌}
use mathlib.Core.Bool.{◌&&◌, ◌||◌, cond, or-true}
use mathlib.Core.List.{List, [], ◌∷◌, ◌++◌, map, append-nil}
use borrow.Author.Tests.{le-leb, lt-leb, eq-eqb, ne_eqb}
use native.Mathlib.Numerals.{add-one}
use native.Mathlib.Decide.{ℕ_discrete}
use native.Mathlib.Omega.{arith}
use lib.ListN.{length, get_or, set, take, drop, length-set, length-map, drop_of_length-le}
use lib.Dec.{leb, eqb}
use lib.Seq.{drop-cons, take_all}
use Rattle.words.specs.Scan.{every, all_zero}
use Rattle.record.specs.Members.{is_member}
use Rattle.record.specs.Whole.{senders_are_members}

-- ---- one id, place by place

abbrev one : ℕ → ℕ → ℕ
one id x = cond (eqb x id) 0 x

abbrev pub struck_from : ℕ → List ℕ → List ℕ
struck_from id left = map (λ x. cond (eqb x id) 0 x) left

-- it is struck out of the first i
pub record Striking (id : ℕ) (start : List ℕ) (i : ℕ) (left : List ℕ) : Type 0 where
  pub long : length left ≡ length start
  pub rest : take i left ++ struck_from id (drop i left) ≡ struck_from id start

pub strike-starts : (id : ℕ) (start : List ℕ) → Striking id start 0 start
strike-starts id start = record { long = refl; rest = refl }

next : (id : ℕ) (l : List ℕ) (i : ℕ) → take (suc i) (set l i (one id (get_or l i 0))) ++ struck_from id (drop (suc i) (set l i (one id (get_or l i 0)))) ≡ take i l ++ struck_from id (drop i l)
next id [] zero = refl
next id [] (suc i) = refl
next id (x ∷ l) zero = refl
next id (x ∷ l) (suc i) = ap (λ rest. x ∷ rest) (next id l i)

pub strike-goes : (id : ℕ) (start : List ℕ) (i : ℕ) (left : List ℕ) (x : ℕ) → Striking id start i left → x ≡ cond (eqb (get_or left i 0) id) 0 (get_or left i 0) → Striking id start (i + 1) (set left i x)
strike-goes id start i left x so_far e =
    record {
      long = rw length-set so_far.long;
      rest = rw (add-one i, e) (next id left i ∙ so_far.rest);
    }

pub strike-ends : (id : ℕ) (start : List ℕ) (i : ℕ) (left : List ℕ) → Striking id start i left → length left ≤ i → left ≡ struck_from id start
strike-ends id start i left so_far h = sym (append-nil left) ∙ rw (take_all i left h, drop_of_length-le left {i = i} h) at so_far.rest

pub length-struck : (id : ℕ) (left left' : List ℕ) → left' ≡ struck_from id left → length left' ≡ length left
length-struck id left left' e = ap length e ∙ length-map left (λ x. cond (eqb x id) 0 x)

-- ---- all ids of a list

pub struck_all : List ℕ → List ℕ → List ℕ
struck_all [] left = left
struck_all (id ∷ ids) left = struck_all ids (struck_from id left)

pub each_goes : (ids left left' all : List ℕ) (i : ℕ) → struck_all (drop i ids) left ≡ all → i < length ids → left' ≡ struck_from (get_or ids i 0) left → struck_all (drop (i + 1) ids) left' ≡ all
unfolding struck_all
each_goes ids left left' all i so_far h e = rw (add-one i, e) (rw (drop-cons ids i 0 h) at so_far)

pub each-ends : (ids left all : List ℕ) (i : ℕ) → struck_all (drop i ids) left ≡ all → length ids ≤ i → left ≡ all
unfolding struck_all
each-ends ids left all i so_far h = rw (drop_of_length-le ids {i = i} h) at so_far

-- ---- nothing is left of the members and of 0

-- what is left of one number
rest_of : List ℕ → ℕ → ℕ
rest_of [] x = x
rest_of (id ∷ ids) x = rest_of ids (one id x)

of_none : (ids : List ℕ) → struck_all ids [] ≡ []
unfolding struck_all
of_none [] = refl
of_none (id ∷ ids) = of_none ids

of-first : (ids : List ℕ) (x : ℕ) (left : List ℕ) → struck_all ids (x ∷ left) ≡ rest_of ids x ∷ struck_all ids left
unfolding struck_all rest_of
of-first [] x left = refl
of-first (id ∷ ids) x left = of-first ids (one id x) (struck_from id left)

one_same : (id x : ℕ) → x ≡ id → one id x ≡ 0
one_same id x e = rw (eq-eqb x id e)

one-other : (id x : ℕ) → (x ≡ id → ⊥) → one id x ≡ x
one-other id x n = rw (ne_eqb x id n)

of_zero : (ids : List ℕ) → rest_of ids 0 ≡ 0
unfolding rest_of
of_zero [] = refl
of_zero (id ∷ ids) =
    elim (ℕ_discrete 0 id) [
      | yes e ↦ rw (one_same id 0 e) (of_zero ids)
      | no n ↦ rw (one-other id 0 n) (of_zero ids)
    ]

none_left : (ids : List ℕ) (x : ℕ) → (leb 0 (rest_of ids x) && leb (rest_of ids x) 0) ≡ (eqb x 0 || is_member ids x)
unfolding every rest_of
none_left [] zero = refl
none_left [] (suc x) = rw (le-leb 0 (suc x) (omega arith), lt-leb (suc x) 0 (omega arith), ne_eqb (suc x) 0 (λ (e : suc x ≡ 0). omega (arith, e)))
none_left (id ∷ ids) x =
    elim (ℕ_discrete x id) [
      | yes e ↦ rw (one_same id x e, of_zero ids, eq-eqb id x (sym e), or-true (eqb x 0))
      | no n ↦ rw (one-other id x n, ne_eqb id x (λ e. n (sym e))) (none_left ids x)
    ]

pub members-alone : (ids senders : List ℕ) → all_zero (struck_all ids senders) ≡ senders_are_members ids senders
unfolding every senders_are_members
members-alone ids [] = rw (of_none ids)
members-alone ids (x ∷ senders) = rw (of-first ids x senders, none_left ids x, members-alone ids senders)
