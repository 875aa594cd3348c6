-- Tests of a whole list.
use Rattle.std.specs.Prelude.{ℕ, List, [], ◌∷◌, Bool, true, not, ◌&&◌, leb, eqb}

-- every element passes; the test is handed the element and those after it
unfoldable pub every : {A : Type 0} → (A → List A → Bool) → List A → Bool
every test [] = true
every test (x ∷ xs) = test x xs && every test xs

-- all are from low to high, as the numbers that `value` says
abbrev pub all_within_as : {A : Type 0} → (A → ℕ) → ℕ → ℕ → List A → Bool
all_within_as value low high = every (λ x after. leb low (value x) && leb (value x) high)

abbrev pub all_within : ℕ → ℕ → List ℕ → Bool
all_within = all_within_as (λ x. x)

abbrev pub all_zero : List ℕ → Bool
all_zero = all_within 0 0

-- x is not among them, by a test of two that are equal
abbrev pub lacks_by : {A : Type 0} → (A → A → Bool) → List A → A → Bool
lacks_by same s x = every (λ y after. not (same y x)) s

abbrev pub lacks : List ℕ → ℕ → Bool
lacks = lacks_by eqb

-- none stands twice
abbrev pub distinct_by : {A : Type 0} → (A → A → Bool) → List A → Bool
distinct_by same = every (λ x after. lacks_by same after x)

abbrev pub distinct : List ℕ → Bool
distinct = distinct_by eqb
