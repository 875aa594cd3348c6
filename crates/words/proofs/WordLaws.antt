-- Laws of little-endian words, each once, over the width.
use Prim.Native.Nat.{ℕ, zero, suc, ◌+◌, ◌*◌, ◌/◌, ◌%◌, ◌^◌, ◌<◌, ◌≤◌}
use mathlib.Core.Path.{◌≡◌, refl, sym, ap, ◌∙◌}
use mathlib.Core.List.{List, [], ◌∷◌, ◌++◌}
use native.Mathlib.Nat.{pow-suc, pow-succ', div-lt_iff_lt-mul, div-div-eq-div-mul, div-one, mod-add-div, add-mul-mod_self_left, add-mul-div_left, mul_assoc, one-mul, zero-add, suc-add}
use native.Mathlib.Numerals.{one-add}
use native.Mathlib.Omega.{arith}
use lib.ListN.{length, get_or, take, drop, length-take, length-drop, take-append-drop}
use lib.Seq.{sets, take-add, drop-cons, drop-drop, get_or-drop}
use Rattle.words.proofs.StoreLaws.{sets-append, Stored, stored_next}
use Rattle.std.specs.Int.{bytes_low_first}
use Rattle.words.specs.Word.{Bytes, word_bytes, word_of, word_at}

-- ---- bytes

pub bytes_drop : (n : ℕ) (s : List ℕ) → Bytes s → Bytes (drop n s)
bytes_drop n s b i = rw get_or-drop (b (n + i))

pub bytes_take : (n : ℕ) (s : List ℕ) → Bytes s → Bytes (take n s)
bytes_take zero s b i = omega arith
bytes_take (suc n) [] b i = omega arith
bytes_take (suc n) (x ∷ s) b zero = b zero
bytes_take (suc n) (x ∷ s) b (suc i) = bytes_take n s (λ j. b (suc j)) i

pub length_part : (at n : ℕ) (s : List ℕ) → at + n ≤ length s → length (take n (drop at s)) ≡ n
length_part at n s h = simp (length-take, length-drop) (omega arith)

-- ---- one word

pub length-word : (w x : ℕ) → length (word_bytes w x) ≡ w
unfolding word_bytes
length-word zero x = refl
length-word (suc w) x = ap suc (length-word w (x / 256))

-- storing and reading restores the number
pub word_back : (w x : ℕ) → x < 256 ^ w → word_of (word_bytes w x) ≡ x
unfolding word_bytes word_of
word_back zero x h = omega arith
word_back (suc w) x h =
    let less : x / 256 < 256 ^ w = (div-lt_iff_lt-mul {k = 256} (omega arith)).1 (rw pow-suc at h) in
    let rest = word_back w (x / 256) less in
    omega arith

-- reading and storing restores the bytes
pub word-there : (s : List ℕ) → Bytes s → word_bytes (length s) (word_of s) ≡ s
unfolding word_bytes word_of
word-there [] b = refl
word-there (x ∷ s) b =
    let small : x < 256 = b zero in
    let low : (x + 256 * word_of s) % 256 ≡ x = omega arith in
    let high : (x + 256 * word_of s) / 256 ≡ word_of s = omega arith in
    rw (low, high, word-there s (λ i. b (suc i)))

-- the same within a longer list
pub word_split : (w : ℕ) (s : List ℕ) (at : ℕ) → Bytes s → at + w ≤ length s → word_bytes w (word_at w s at) ++ drop (at + w) s ≡ drop at s
unfolding word_at
word_split w s at b h =
    let p = take w (drop at s) in
    let size : length p ≡ w = length_part at w s h in
    let bytes : word_bytes w (word_of p) ≡ p = rw size at (word-there p (bytes_take w (drop at s) (bytes_drop at s b))) in
    rw (bytes, ← drop-drop) (take-append-drop w (drop at s))

-- ---- a word is two shorter words

append-of : (p q : List ℕ) → word_of (p ++ q) ≡ word_of p + 256 ^ length p * word_of q
unfolding word_of
append-of [] q = omega (arith, one-mul (word_of q))
append-of (x ∷ p) q =
    let e : 256 ^ suc (length p) * word_of q ≡ 256 * (256 ^ length p * word_of q) = rw (pow-succ', mul_assoc) in
    let rest = append-of p q in
    omega arith

pub word-join : (v w : ℕ) (s : List ℕ) (at : ℕ) → at + v ≤ length s → word_at (v + w) s at ≡ word_at v s at + 256 ^ v * word_at w s (at + v)
unfolding word_at
word-join v w s at h =
    rw (take-add, append-of, length_part at v s h, drop-drop)

bytes-more : (v x k : ℕ) → word_bytes v (x + 256 ^ v * k) ≡ word_bytes v x
unfolding word_bytes
bytes-more zero x k = refl
bytes-more (suc v) x k =
    let e : 256 ^ suc v * k ≡ 256 * (256 ^ v * k) = rw (pow-succ', mul_assoc) in
    rw (e, add-mul-mod_self_left, add-mul-div_left x (256 ^ v * k) {y = 256} (omega arith), bytes-more v (x / 256) k)

pub bytes_low : (v x : ℕ) → word_bytes v (x % 256 ^ v) ≡ word_bytes v x
bytes_low v x = sym (bytes-more v (x % 256 ^ v) (x / 256 ^ v)) ∙ ap (word_bytes v) (mod-add-div x (256 ^ v))

bytes-join : (v w x : ℕ) → word_bytes (v + w) x ≡ word_bytes v x ++ word_bytes w (x / 256 ^ v)
unfolding word_bytes
bytes-join zero w x = rw (zero-add, div-one)
bytes-join (suc v) w x =
    let e : x / 256 / 256 ^ v ≡ x / 256 ^ suc v = rw (div-div-eq-div-mul, pow-succ') in
    rw (suc-add, bytes-join v w (x / 256), e)

-- storing the low part and then the high part stores the whole
pub word-stored : (v w x at : ℕ) (l l₁ l₂ : List ℕ) → l₁ ≡ sets l at (word_bytes v (x % 256 ^ v)) → l₂ ≡ sets l₁ (at + v) (word_bytes w (x / 256 ^ v)) → l₂ ≡ sets l at (word_bytes (v + w) x)
word-stored v w x at l l₁ l₂ e f =
    rw (f, e, bytes_low, bytes-join, sets-append, length-word)

-- a word stored right after what was stored before
pub stored-word : {l : List ℕ} {at : ℕ} {p : List ℕ} {n : ℕ} {l₁ : List ℕ} (w x : ℕ) (l₂ : List ℕ)
    → Stored l at p n l₁
    → l₂ ≡ sets l₁ (at + n) (word_bytes w x)
    → Stored l at (p ++ word_bytes w x) (n + w) l₂
stored-word w x l₂ first e = stored_next w (word_bytes w x) l₂ first (length-word w x) e

-- ---- a word of one byte is the byte

pub byte_at : (s : List ℕ) (at : ℕ) → at < length s → get_or s at 0 ≡ word_at 1 s at
unfolding word_at word_of
byte_at s at h = rw (drop-cons s at 0 h) (omega arith)

pub byte_word : (x : ℕ) → x < 256 → word_bytes 1 x ≡ x ∷ []
unfolding word_bytes
byte_word x h = let e : x % 256 ≡ x = omega arith in rw e

-- ---- as std's own conversions give them

bytes-low : (i k x : ℕ) → bytes_low_first i k x ≡ word_bytes k (x / 256 ^ i)
unfolding word_bytes
bytes-low i zero x = refl
bytes-low zero (suc k) x = rw (div-one, bytes-low 1 k x)
bytes-low (suc i) (suc k) x =
    let e : x / 256 ^ suc i / 256 ≡ x / 256 ^ suc (suc i) = rw (div-div-eq-div-mul, ← pow-suc) in
    rw (e, bytes-low (suc (suc i)) k x)

pub le_bytes : (k x : ℕ) → bytes_low_first 0 k x ≡ word_bytes k x
le_bytes k x = bytes-low 0 k x ∙ ap (word_bytes k) (div-one x)

-- a word is its lowest byte and a word of the rest
word-from : (w : ℕ) (s : List ℕ) (at next : ℕ) → next ≡ at + 1 → at < length s → word_at (suc w) s at ≡ get_or s at 0 + 256 * word_at w s next
word-from w s at next e h = rw (e, byte_at s at h, ← one-add) (word-join 1 w s at (omega arith))

none : (s : List ℕ) (at : ℕ) → word_at 0 s at ≡ 0
unfolding word_at word_of
none s at = refl

pub word_two : (s : List ℕ) (at : ℕ) → at + 2 ≤ length s → word_at 2 s at ≡ get_or s at 0 + 256 * get_or s (at + 1) 0
word_two s at h =
    omega (arith, word-from 1 s at (at + 1) refl (omega arith), word-from 0 s (at + 1) (at + 2) (omega arith) (omega arith), none s (at + 2))

pub word_four : (s : List ℕ) (at : ℕ) → at + 4 ≤ length s → word_at 4 s at ≡ get_or s at 0 + 256 * get_or s (at + 1) 0 + 65536 * get_or s (at + 2) 0 + 16777216 * get_or s (at + 3) 0
word_four s at h =
    omega (arith, word-from 3 s at (at + 1) refl (omega arith), word-from 2 s (at + 1) (at + 2) (omega arith) (omega arith), word-from 1 s (at + 2) (at + 3) (omega arith) (omega arith), word-from 0 s (at + 3) (at + 4) (omega arith) (omega arith), none s (at + 4))
