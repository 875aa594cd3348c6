-- Parts of a list of bytes after a run of stores, and contents that stand 64 bytes apart.
use Prim.Native.Nat.{ℕ, zero, suc, ◌+◌, ◌*◌, ◌-◌, ◌<◌, ◌≤◌}
use mathlib.Core.Path.{◌≡◌, refl, sym, ap, ◌∙◌}
use mathlib.Core.Logic.{◌≢◌}
use mathlib.Core.List.{List, [], ◌∷◌, ◌++◌, append_assoc}
use mathlib.Core.Bool.{true}
use borrow.Author.Tests.{le-leb}
use native.Mathlib.Nat.{add-zero, sub-zero, zero-sub, suc-sub-suc}
use native.Mathlib.Decide.{dec_lt}
use native.Mathlib.Omega.{arith}
use lib.ListN.{length, get_or, set, take, drop, replicate, length-append, length-drop, length-replicate, get_or-append, take-append-drop}
use lib.Dec.{leb-zero}
use lib.Seq.{sets, sets-eq, take_at, drop_at, take-set-le, drop-set-lt, drop-set-add, length-take-le, get_or-set_same, get_or-set_other, get_or-drop, drop-drop, drop-append-le, take-append-le, take-nil, take_all}
use Rattle.words.specs.Scan.{every, all_within, all_zero}
use Rattle.frames.specs.Layout.{most_content}
use Rattle.frames.proofs.TokenLaws.{drop-replicate}

-- ---- a part that the stores don't touch

part-set : (n at i x : ℕ) (l : List ℕ) → at + n ≤ i → take n (drop at (set l i x)) ≡ take n (drop at l)
part-set n at i x l h =
    let e : i ≡ at + (i - at) = omega arith in
    ap (λ k. take n (drop at (set l k x))) e ∙ rw drop-set-add (take-set-le n (drop at l) (i - at) x (omega arith))

-- it ends where they begin
pub part-before : (n at i : ℕ) (vs l : List ℕ) → at + n ≤ i → take n (drop at (sets l i vs)) ≡ take n (drop at l)
part-before n at i [] l h = refl
part-before n at i (x ∷ vs) l h = part-before n at (suc i) vs (set l i x) (omega arith) ∙ part-set n at i x l h

-- it begins where they end
pub part-after : (at i : ℕ) (vs l : List ℕ) → i + length vs ≤ at → drop at (sets l i vs) ≡ drop at l
part-after at i [] l h = refl
part-after at i (x ∷ vs) l h = part-after at (suc i) vs (set l i x) (omega arith) ∙ drop-set-lt at l i x (omega arith)

-- ---- the part that they wrote

pub part-written : (at : ℕ) (vs l : List ℕ) → at + length vs ≤ length l → take (length vs) (drop at (sets l at vs)) ≡ vs
part-written at vs l h =
    let front : length (take at l) ≡ at = length-take-le at l (omega arith) in
    rw (sets-eq vs l at h, append_assoc, drop_at (take at l) (vs ++ drop (at + length vs) l) at front)
    (take_at vs (drop (at + length vs) l) (length vs) refl)

-- storing what stands there changes nothing
pub stands : (n : ℕ) (l : List ℕ) (at : ℕ) → at + n ≤ length l → sets l at (take n (drop at l)) ≡ l
stands n l at h =
    let size : length (take n (drop at l)) ≡ n = length-take-le n (drop at l) (rw length-drop (omega arith)) in
    rw (sets-eq (take n (drop at l)) l at (omega (arith, size)), size, append_assoc, ← drop-drop n at l, take-append-drop n (drop at l))
    (take-append-drop at l)

-- ---- contents that stand 64 bytes apart

-- a store at one place leaves the others
pub place-apart : (p q k n : ℕ) (vs l : List ℕ)
    → p ≢ q
    → k + n ≤ most_content
    → length vs ≤ most_content
    → take n (drop (most_content * p + k) (sets l (most_content * q) vs)) ≡ take n (drop (most_content * p + k) l)
place-apart p q k n vs l apart inside short =
    elim (dec_lt p q) [
      | yes h ↦ part-before n (most_content * p + k) (most_content * q) vs l (omega arith)
      | no h ↦ ap (take n) (part-after (most_content * p + k) (most_content * q) vs l (omega arith))
    ]

-- the content at a place, its length in a list beside: what is stored there is read there
pub content-same : (lengths contents : List ℕ) (place : ℕ) (content : List ℕ)
    → place < length lengths
    → most_content * place + length content ≤ length contents
    → take (get_or (set lengths place (length content)) place 0) (drop (most_content * place) (sets contents (most_content * place) content)) ≡ content
content-same lengths contents place content h room = rw (get_or-set_same lengths place (length content) 0 h) (part-written (most_content * place) content contents room)

-- the others stay
pub content-other : (lengths contents : List ℕ) (p place n : ℕ) (vs : List ℕ)
    → p ≢ place
    → get_or lengths p 0 ≤ most_content
    → length vs ≤ most_content
    → take (get_or (set lengths place n) p 0) (drop (most_content * p) (sets contents (most_content * place) vs)) ≡ take (get_or lengths p 0) (drop (most_content * p) contents)
content-other lengths contents p place n vs apart short few =
    rw (get_or-set_other lengths place p n 0 apart)
    (rw add-zero at (place-apart p place 0 (get_or lengths p 0) vs contents apart (omega arith) few))

-- ---- what stands behind the first n moves up to the front, and zeros follow

pub length_moved : (l : List ℕ) (n : ℕ) → n ≤ length l → length (drop n l ++ replicate n 0) ≡ length l
length_moved l n h = length-append (drop n l) (replicate n 0) ∙ rw (length-drop, length-replicate) (omega arith)

-- the same as the code spells it: what is left goes to the front of zeros
pub moved_up : (l : List ℕ) (size n : ℕ) → length l ≡ size → n ≤ size → take (size - n) (drop n l) ++ drop (size - n) (replicate size 0) ≡ drop n l ++ replicate n 0
moved_up l size n long h =
    let left : length (drop n l) ≤ size - n = rw length-drop (omega arith) in
    let right : size - (size - n) ≡ n = omega arith in
    rw (take_all (size - n) (drop n l) left, drop-replicate size (size - n), right)

-- a number that moved up n places
pub moved-number : (l : List ℕ) (n k : ℕ) → n + k < length l → get_or (drop n l ++ replicate n 0) k 0 ≡ get_or l (n + k) 0
moved-number l n k h = get_or-append (drop n l) (replicate n 0) 0 k (simp length-drop (omega arith)) ∙ get_or-drop n l k 0

-- a part of one content
pub moved-part : (size : ℕ) (contents : List ℕ) (n place k : ℕ)
    → most_content * (n + place) + k + size ≤ length contents
    → take size (drop (most_content * place + k) (drop (most_content * n) contents ++ replicate (most_content * n) 0)) ≡ take size (drop (most_content * (n + place) + k) contents)
moved-part size contents n place k h =
    let room : most_content * place + k ≤ length (drop (most_content * n) contents) = simp length-drop (omega arith) in
    let e : most_content * n + (most_content * place + k) ≡ most_content * (n + place) + k = omega arith in
    rw (drop-append-le (most_content * place + k) (drop (most_content * n) contents) (replicate (most_content * n) 0) room, drop-drop, e)
    (take-append-le size (drop (most_content * (n + place) + k) contents) (replicate (most_content * n) 0) (simp length-drop (omega arith)))

-- ---- a bound on all elements

abbrev pub Most : ℕ → List ℕ → Type 0
Most most l = (i : ℕ) → get_or l i 0 ≤ most

pub most-set : (most : ℕ) (l : List ℕ) (place x : ℕ) → Most most l → x ≤ most → Most most (set l place x)
most-set most [] place x all h i = all i
most-set most (y ∷ l) zero x all h zero = h
most-set most (y ∷ l) zero x all h (suc i) = all (suc i)
most-set most (y ∷ l) (suc place) x all h zero = all zero
most-set most (y ∷ l) (suc place) x all h (suc i) = most-set most l place x (λ j. all (suc j)) h i

pub most-drop : (most n : ℕ) (l : List ℕ) → Most most l → Most most (drop n l)
most-drop most n l all i = rw get_or-drop (all (n + i))

pub most-take : (most n : ℕ) (l : List ℕ) → Most most l → Most most (take n l)
most-take most zero l all i = omega arith
most-take most (suc n) [] all i = omega arith
most-take most (suc n) (x ∷ l) all zero = all zero
most-take most (suc n) (x ∷ l) all (suc i) = most-take most n l (λ j. all (suc j)) i

pub drop-take : (k n : ℕ) (l : List ℕ) → drop k (take n l) ≡ take (n - k) (drop k l)
drop-take zero n l = rw sub-zero
drop-take (suc k) zero l = rw zero-sub
drop-take (suc k) (suc n) [] = sym (take-nil (suc n - suc k))
drop-take (suc k) (suc n) (x ∷ l) = rw suc-sub-suc (drop-take k n l)

-- a part keeps the bound when its front goes
pub most-later : (most n at k : ℕ) (l : List ℕ) → Most most (take n (drop at l)) → Most most (take (n - k) (drop (at + k) l))
most-later most n at k l all i = rw (← drop-drop k at l, ← drop-take k n (drop at l)) (most-drop most k (take n (drop at l)) all i)

pub most-append : (most : ℕ) (l r : List ℕ) → Most most l → Most most r → Most most (l ++ r)
most-append most [] r all rest i = rest i
most-append most (x ∷ l) r all rest zero = all zero
most-append most (x ∷ l) r all rest (suc i) = most-append most l r (λ j. all (suc j)) rest i

pub most-zeros : (most n : ℕ) → Most most (replicate n 0)
most-zeros most zero i = omega arith
most-zeros most (suc n) zero = omega arith
most-zeros most (suc n) (suc i) = most-zeros most n i

pub all-within : (most : ℕ) (l : List ℕ) → Most most l → all_within 0 most l ≡ true
unfolding every
all-within most [] all = refl
all-within most (x ∷ l) all = rw (leb-zero x, le-leb x most (all zero), all-within most l (λ i. all (suc i)))

pub zeros-zero : (n k : ℕ) → all_zero (drop k (replicate n 0)) ≡ true
zeros-zero n k = all-within 0 (drop k (replicate n 0)) (most-drop 0 k (replicate n 0) (most-zeros 0 n))
