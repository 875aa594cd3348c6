-- Stores one after another: what several calls leave, as one list of bytes stored at one place.
use Prim.Native.Nat.{ℕ, suc, ◌+◌, ◌-◌, ◌<◌, ◌≤◌}
use mathlib.Core.Path.{◌≡◌, refl, sym, ap, ◌∙◌}
use mathlib.Core.List.{List, [], ◌∷◌, ◌++◌, append_assoc, append-nil}
use native.Mathlib.Nat.{add-sub_cancel_left, add-zero, add-suc, suc-add, zero-add}
use native.Mathlib.Omega.{arith}
use native.Mathlib.Numerals.{add-one}
use lib.ListN.{replicate, length-replicate, get_or, length-take, length-set, drop_of_length-le, length, set, take, drop, length-append, length-drop, take-append-drop}
use borrow.Rule.Slice.PartMut.{put_mid}
use Rattle.std.proofs.lemmas.List.{take_rest}
use lib.Seq.{drop-cons, sets, sets-eq, length-sets, take_at, drop_at, take-add, drop-drop, length-take-le}

pub sets-append : (a b l : List ℕ) (i : ℕ) → sets l i (a ++ b) ≡ sets (sets l i a) (i + length a) b
sets-append [] b l i = rw add-zero
sets-append (x ∷ a) b l i = rw (sets-append a b (set l i x) (suc i), suc-add, add-suc)

-- l' is l with these n bytes stored at `at`
pub record Stored (l : List ℕ) (at : ℕ) (bytes : List ℕ) (n : ℕ) (l' : List ℕ) : Type 0 where
  pub size : length bytes ≡ n
  pub is : l' ≡ sets l at bytes

pub stored-none : (l : List ℕ) (at : ℕ) → Stored l at [] 0 l
stored-none l at = record { size = refl; is = refl }

-- k bytes more, stored right after them
pub stored_next : {l : List ℕ} {at : ℕ} {p : List ℕ} {n : ℕ} {l₁ : List ℕ} (k : ℕ) (q l₂ : List ℕ)
    → Stored l at p n l₁
    → length q ≡ k
    → l₂ ≡ sets l₁ (at + n) q
    → Stored l at (p ++ q) (n + k) l₂
stored_next {l} {at} {p} {n} {l₁} k q l₂ first long e =
    record {
      size = length-append p q ∙ rw (first.size, long);
      is = e ∙ rw (first.is, sets-append, first.size);
    }

-- stored at the front, they are followed by what stood there
pub front-stored : {A : Type 0} (n : ℕ) (xs out : List A) → length xs ≡ n → n ≤ length out → sets out 0 xs ≡ xs ++ drop n out
front-stored n xs out size room = sets-eq xs out 0 (omega arith) ∙ rw (size, zero-add)

-- the part from `at` to at + n, as the code spells it, stored at the front
pub part-stored : {A : Type 0} (at n : ℕ) (s out out' : List A) → at + n ≤ length s → n ≤ length out → out' ≡ sets out 0 (take (at + n - at) (drop at s)) → out' ≡ take n (drop at s) ++ drop n out
part-stored at n s out out' inside room e =
    let size : length (take n (drop at s)) ≡ n = simp (length-take, length-drop) (omega arith) in
    rw add-sub_cancel_left at e ∙ front-stored n (take n (drop at s)) out size room

-- ---- a loop that copies xs into out₀ from `at` on

pub record Copying {A : Type 0} (at : ℕ) (xs out₀ : List A) (i : ℕ) (out : List A) : Type 0 where
  pub within : i ≤ length xs
  pub size : length out ≡ length out₀
  pub rest : sets out (at + i) (drop i xs) ≡ sets out₀ at xs

module _ {A : Type 0} (at : ℕ) (xs out₀ : List A) where
  pub copying-starts : Copying at xs out₀ 0 out₀
  copying-starts = record { within = omega arith; size = refl; rest = rw add-zero }

  pub copying-goes : (i : ℕ) (out : List A) (x : A) → Copying at xs out₀ i out → i < length xs → x ≡ get_or xs i x → Copying at xs out₀ (i + 1) (set out (at + i) x)
  copying-goes i out x r h here =
      let split : drop i xs ≡ x ∷ drop (suc i) xs = drop-cons xs i x h ∙ ap (λ y. y ∷ drop (suc i) xs) (sym here) in
      record { within = omega arith; size = length-set out (at + i) x ∙ r.size; rest = rw (add-one i, add-suc) (rw split at r.rest) }

  pub copying-ends : (i : ℕ) (out : List A) → Copying at xs out₀ i out → length xs ≤ i → out ≡ sets out₀ at xs
  copying-ends i out r h = rw (drop_of_length-le xs h) at r.rest

-- all of a part replaced by xs, as a copy into it leaves the list
pub placed : {A : Type 0} (at k : ℕ) (out xs ys : List A) → k ≡ length xs → ys ≡ xs → at + length xs ≤ length out → put_mid at k out ys ≡ sets out at xs
placed at k out xs ys size e room = rw (size, e, drop-drop, ← append_assoc) (sym (sets-eq xs out at room))

-- ---- pieces that overlap

-- the same stored twice
sets-twice : (v l : List ℕ) (at : ℕ) → at + length v ≤ length l → sets (sets l at v) at v ≡ sets l at v
sets-twice v l at room =
    let front = take at l in
    let back = drop (at + length v) l in
    let long : length front ≡ at = length-take-le at l (omega arith) in
    let once : sets l at v ≡ (front ++ v) ++ back = sets-eq v l at room in
    let again : sets (sets l at v) at v ≡ (take at (sets l at v) ++ v) ++ drop (at + length v) (sets l at v) = sets-eq v (sets l at v) at (rw length-sets room) in
    let before : take at (sets l at v) ≡ front = rw (once, append_assoc) (take_at front (v ++ back) at long) in
    let after : drop (at + length v) (sets l at v) ≡ back = rw once (drop_at (front ++ v) back (at + length v) (length-append front v ∙ rw long)) in
    again ∙ rw (before, after) (sym once)

-- the first i bytes are stored; then those from m on, some of them again
pub overlap : (l xs : List ℕ) (at i m : ℕ) → m ≤ i → i ≤ length xs → at + length xs ≤ length l
    → sets (sets l at (take i xs)) (at + m) (drop m xs) ≡ sets l at xs
overlap l xs at i m h k room =
    let u = take m xs in
    let v = take (i - m) (drop m xs) in
    let z = drop i xs in
    let up : m + (i - m) ≡ i = omega arith in
    let lu : length u ≡ m = length-take-le m xs (omega arith) in
    let lv : length v ≡ i - m = length-take-le (i - m) (drop m xs) (rw length-drop (omega arith)) in
    let first : take i xs ≡ u ++ v = rw up at (take-add m (i - m) xs) in
    let rest : drop m xs ≡ v ++ z = sym (take-append-drop (i - m) (drop m xs)) ∙ rw (drop-drop (i - m) m xs, up) in
    let l₁ = sets l at u in
    let once : sets l at (u ++ v) ≡ sets l₁ (at + m) v = sets-append u v l at ∙ rw lu in
    let twice : sets (sets l₁ (at + m) v) (at + m) v ≡ sets l₁ (at + m) v = sets-twice v l₁ (at + m) (rw (length-sets, lv) (omega arith)) in
    let again : sets (sets l₁ (at + m) v) (at + m) (v ++ z) ≡ sets (sets l₁ (at + m) v) (at + m + length v) z = sets-append v z (sets l₁ (at + m) v) (at + m) ∙ rw twice in
    let all : sets l at xs ≡ sets (sets l₁ (at + m) v) (at + m + length v) z =
    ap (λ (ys : List ℕ). sets l at ys) (sym (take-append-drop m xs))
    ∙ sets-append u (drop m xs) l at
    ∙ ap (λ (n : ℕ). sets l₁ (at + n) (drop m xs)) lu
    ∙ ap (λ (ys : List ℕ). sets l₁ (at + m) ys) rest
    ∙ sets-append v z l₁ (at + m) in
    ap (λ (ys : List ℕ). sets (sets l at ys) (at + m) (drop m xs)) first
    ∙ ap (λ (l₂ : List ℕ). sets l₂ (at + m) (drop m xs)) once
    ∙ ap (λ (ys : List ℕ). sets (sets l₁ (at + m) v) (at + m) ys) rest
    ∙ again
    ∙ sym all

-- the next k bytes, after the first i
pub next-piece : (l xs l' : List ℕ) (at i k : ℕ) → i ≤ length xs → l' ≡ sets (sets l at (take i xs)) (at + i) (take k (drop i xs)) → l' ≡ sets l at (take (i + k) xs)
next-piece l xs l' at i k h e =
    let long : length (take i xs) ≡ i = length-take-le i xs h in
    e ∙ rw (take-add i k xs, sets-append (take i xs) (take k (drop i xs)) l at, long)

-- a whole list replaced
all-over : {A : Type 0} (xs out : List A) → length out ≡ length xs → sets out 0 xs ≡ xs
all-over xs out size =
    let none : drop (length xs) out ≡ [] = drop_of_length-le out (omega arith) in
    front-stored (length xs) xs out refl (omega arith) ∙ rw (none, append-nil)

-- a piece goes by way of an array of just its size
pub piece-put : (n : ℕ) (l l' piece xs : List ℕ) (at : ℕ) → length xs ≡ n → piece ≡ sets (replicate n 0) 0 xs → l' ≡ sets l at piece → l' ≡ sets l at xs
piece-put n l l' piece xs at size e f =
    let long : length (replicate n 0) ≡ length xs = length-replicate n 0 ∙ sym size in
    f ∙ ap (λ ys. sets l at ys) (e ∙ all-over xs (replicate n 0) long)

-- ---- as the code spells them: a piece is a part of k bytes, and what is left of xs a part to the end

pub piece-goes : (l xs l₁ l₂ : List ℕ) (at i k : ℕ)
    → i ≤ length xs
    → l₁ ≡ sets l at (take i xs)
    → l₂ ≡ sets l₁ (at + i) (take (i + k - i) (drop i xs))
    → l₂ ≡ sets l at (take (i + k) xs)
piece-goes l xs l₁ l₂ at i k h e f = next-piece l xs l₂ at i k h (f ∙ rw (e, add-sub_cancel_left))

pub piece-ends : (l xs l₁ l₂ : List ℕ) (at i m : ℕ)
    → m ≤ i
    → i ≤ length xs
    → at + length xs ≤ length l
    → l₁ ≡ sets l at (take i xs)
    → l₂ ≡ sets l₁ (at + m) (take (length xs - m) (drop m xs))
    → l₂ ≡ sets l at xs
piece-ends l xs l₁ l₂ at i m near h room e f = f ∙ rw (e, take_rest xs m) (overlap l xs at i m near h room)
