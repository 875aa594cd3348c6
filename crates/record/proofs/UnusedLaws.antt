-- A part not in use: zero from a place on.
use Prim.Native.Nat.{ℕ, zero, suc, ◌+◌, ◌*◌, ◌<◌}
use mathlib.Core.Path.{◌≡◌, ◌∙◌}
use mathlib.Core.Bool.{Bool, true}
use mathlib.Core.List.{List, []}
use native.Mathlib.Nat.{mul-zero}
use native.Mathlib.Omega.{arith}
use lib.ListN.{length, get_or, take, drop, drop_of_length-le}
use lib.Seq.{drop-drop}
use Rattle.std.specs.Simd.{first_chunks}
use Rattle.words.specs.Scan.{every, all_zero, all_within_as}
use Rattle.frames.specs.Layout.{most_content}
use Rattle.record.specs.Contents.{padding}
use Rattle.record.proofs.ListLaws.{drop-take}

-- nothing stands past the end
pub past_end : {A : Type 0} (value : A → ℕ) (s : List A) (n : ℕ) → length s < n → true ≡ all_within_as value 0 0 (drop n s)
unfolding every
past_end value s n h =
    let e : drop n s ≡ [] = drop_of_length-le s {i = n} (omega arith) in
    rw e

-- ---- contents that stand one after another

chunk-at : (n k : ℕ) (s : List ℕ) (i : ℕ) (d : List ℕ) → i < k → get_or (first_chunks n k s) i d ≡ take n (drop (n * i) s)
chunk-at n zero s i d h = absurd (omega arith)
chunk-at n (suc k) s zero d h = rw mul-zero
chunk-at n (suc k) s (suc i) d h =
    let next : n + n * i ≡ n * suc i = omega arith in
    chunk-at n k (drop n s) i d (omega arith) ∙ rw (drop-drop (n * i) n s, next)

-- the bytes past the length of a content, as the code tests them
pub padding-tested : (lengths contents : List ℕ) (i k : ℕ) (content : List ℕ) (n : ℕ) (r : Bool)
    → i < k → content ≡ get_or (first_chunks most_content k contents) i [] → n ≡ get_or lengths i 0 → r ≡ all_zero (drop n content)
    → r ≡ all_zero (padding lengths contents i)
padding-tested lengths contents i k content n r h e f g =
    g ∙ rw (e, f, chunk-at most_content k contents i [] h, drop-take (get_or lengths i 0) most_content (drop (most_content * i) contents), drop-drop (get_or lengths i 0) (most_content * i) contents)
