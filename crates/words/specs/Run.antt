-- Runs of words of one width, one after another with nothing between.
use Rattle.std.specs.Prelude.{ℕ, zero, suc, List, [], ◌∷◌, ◌++◌, drop}
use Rattle.words.specs.Word.{word_bytes, word_at}

-- the first n words of w bytes in s, each as `of` makes it of the number
unfoldable pub words_as : {A : Type 0} → (ℕ → A) → ℕ → ℕ → List ℕ → List A
words_as of w zero s = []
words_as of w (suc n) s = of (word_at w s 0) ∷ words_as of w n (drop w s)

-- the first n words of w bytes in s
abbrev pub words : ℕ → ℕ → List ℕ → List ℕ
words = words_as (λ x. x)

-- the bytes of words of w bytes, each the number that `value` says
unfoldable pub bytes_as : {A : Type 0} → (A → ℕ) → ℕ → List A → List ℕ
bytes_as value w [] = []
bytes_as value w (x ∷ xs) = word_bytes w (value x) ++ bytes_as value w xs

-- the bytes of words of w bytes
abbrev pub words_bytes : ℕ → List ℕ → List ℕ
words_bytes = bytes_as (λ x. x)
