-- Laws of runs of words, each once, over the width.
use Prim.Native.Nat.{ℕ, zero, suc, ◌+◌, ◌*◌, ◌-◌, ◌^◌, ◌<◌, ◌≤◌}
use mathlib.Core.Path.{◌≡◌, refl, sym, ap, ◌∙◌}
use mathlib.Core.List.{List, [], ◌∷◌, ◌++◌, append_assoc}
use native.Mathlib.Nat.{mul-zero, add-zero, sub-zero, zero-add}
use native.Mathlib.Numerals.{add-one}
use native.Mathlib.Omega.{arith}
use lib.ListN.{length, get_or, set, take, drop, length-append, length-set, length-drop, drop_of_length-le}
use lib.Seq.{sets, drop-cons, drop-drop, take_at, drop_at, length-sets}
use Rattle.words.specs.Word.{Bytes, word_bytes, word_at}
use Rattle.words.specs.Run.{words_as, words, bytes_as, words_bytes}
use Rattle.words.proofs.WordLaws.{length-word, word_back, word_split, bytes_drop}
use Rattle.words.proofs.StoreLaws.{sets-append, front-stored}

-- ---- sizes

length-as : {A : Type 0} (of : ℕ → A) (w n : ℕ) (s : List ℕ) → length (words_as of w n s) ≡ n
unfolding words_as
length-as of w zero s = refl
length-as of w (suc n) s = ap suc (length-as of w n (drop w s))

pub length-words : (w n : ℕ) (s : List ℕ) → length (words w n s) ≡ n
length-words = length-as (λ x. x)

pub length-words-bytes : (w : ℕ) (xs : List ℕ) → length (words_bytes w xs) ≡ w * length xs
unfolding bytes_as
length-words-bytes w [] = sym (mul-zero w)
length-words-bytes w (x ∷ xs) = rw (length-append, length-word, length-words-bytes w xs) (omega arith)

-- ---- round trips

-- storing and reading restores the numbers, whatever stands after them
pub words_back : (w : ℕ) (xs rest : List ℕ) → ((i : ℕ) → get_or xs i 0 < 256 ^ w) → words w (length xs) (words_bytes w xs ++ rest) ≡ xs
unfolding words_as bytes_as word_at
words_back w [] rest h = refl
words_back w (x ∷ xs) rest h =
    let first : take w (word_bytes w x ++ (words_bytes w xs ++ rest)) ≡ word_bytes w x = take_at (word_bytes w x) _ w (length-word w x) in
    let after : drop w (word_bytes w x ++ (words_bytes w xs ++ rest)) ≡ words_bytes w xs ++ rest = drop_at (word_bytes w x) _ w (length-word w x) in
    rw (append_assoc, first, after, word_back w x (h zero), words_back w xs rest (λ i. h (suc i)))

-- reading and storing restores the bytes
pub words-there : (w n : ℕ) (s : List ℕ) → Bytes s → w * n ≤ length s → words_bytes w (words w n s) ++ drop (w * n) s ≡ s
unfolding words_as bytes_as
words-there w zero s b h = rw mul-zero
words-there w (suc n) s b h =
    let e : w * suc n ≡ w + w * n = omega arith in
    let room : w * n ≤ length (drop w s) = simp length-drop (omega arith) in
    let rest = words-there w n (drop w s) (bytes_drop w s b) room in
    let first : word_bytes w (word_at w s 0) ++ drop (0 + w) s ≡ s = word_split w s 0 b (omega arith) in
    rw (append_assoc, e, ← drop-drop, rest) (rw zero-add at first)

-- ---- a loop that reads n words of s from `at` on into the front of out₀: what is still to be read, stored from here on, gives what the whole gives

pub record Reading {A : Type 0} (of : ℕ → A) (w n at : ℕ) (s : List ℕ) (out₀ : List A) (i : ℕ) (out : List A) : Type 0 where
  pub within : i ≤ n
  pub size : length out ≡ length out₀
  pub rest : sets out i (words_as of w (n - i) (drop (at + w * i) s)) ≡ sets out₀ 0 (words_as of w n (drop at s))

front : (w k : ℕ) (s : List ℕ) → word_at w (drop k s) 0 ≡ word_at w s k
unfolding word_at
front w k s = refl

module _ {A : Type 0} (of : ℕ → A) (w n at : ℕ) (s : List ℕ) (out₀ : List A) where
  pub reading-starts : Reading of w n at s out₀ 0 out₀
  reading-starts = record { within = omega arith; size = refl; rest = rw (mul-zero, add-zero, sub-zero) }

  pub reading-goes : (i : ℕ) (out : List A) (x : A) → Reading of w n at s out₀ i out → i < n → x ≡ of (word_at w s (at + w * i)) → Reading of w n at s out₀ (i + 1) (set out i x)
  unfolding words_as
  reading-goes i out x r h e =
      let left : n - i ≡ suc (n - (i + 1)) = omega arith in
      let next : at + w * i + w ≡ at + w * (i + 1) = omega arith in
      record {
        within = omega arith;
        size = length-set out i x ∙ r.size;
        rest = rw (e, add-one i) (rw (left, front, drop-drop, next, add-one i) at r.rest);
      }

  pub reading-ends : (i : ℕ) (out : List A) → Reading of w n at s out₀ i out → n ≤ i → n ≤ length out₀ → out ≡ words_as of w n (drop at s) ++ drop n out₀
  unfolding words_as
  reading-ends i out r h room =
      let none : n - i ≡ 0 = omega arith in
      rw none at r.rest ∙ front-stored n (words_as of w n (drop at s)) out₀ (length-as of w n (drop at s)) room

-- ---- a loop that stores words into out₀ from `at` on

pub record Storing {A : Type 0} (value : A → ℕ) (w at : ℕ) (xs : List A) (out₀ : List ℕ) (i : ℕ) (out : List ℕ) : Type 0 where
  pub within : i ≤ length xs
  pub size : length out ≡ length out₀
  pub rest : sets out (at + w * i) (bytes_as value w (drop i xs)) ≡ sets out₀ at (bytes_as value w xs)

module _ {A : Type 0} (value : A → ℕ) (w at : ℕ) (xs : List A) (out₀ : List ℕ) where
  pub storing-starts : Storing value w at xs out₀ 0 out₀
  storing-starts = record { within = omega arith; size = refl; rest = rw (mul-zero, add-zero) }

  pub storing-goes : (i : ℕ) (out out' : List ℕ) (x : A)
      → Storing value w at xs out₀ i out
      → i < length xs
      → x ≡ get_or xs i x
      → out' ≡ sets out (at + w * i) (word_bytes w (value x))
      → Storing value w at xs out₀ (i + 1) out'
  unfolding bytes_as
  storing-goes i out out' x r h here e =
      let next : at + w * i + w ≡ at + w * (i + 1) = omega arith in
      let split : drop i xs ≡ x ∷ drop (suc i) xs = drop-cons xs i x h ∙ ap (λ y. y ∷ drop (suc i) xs) (sym here) in
      record {
        within = omega arith;
        size = ap length e ∙ length-sets out (at + w * i) (word_bytes w (value x)) ∙ r.size;
        rest = rw (e, add-one i) (rw (split, sets-append, length-word, next, add-one i) at r.rest);
      }

  pub storing-ends : (i : ℕ) (out : List ℕ) → Storing value w at xs out₀ i out → length xs ≤ i → out ≡ sets out₀ at (bytes_as value w xs)
  unfolding bytes_as
  storing-ends i out r h = rw (drop_of_length-le xs h) at r.rest
