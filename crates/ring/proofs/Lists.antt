-- Words for lists: laws.
use mathlib.Core.Path.{◌≡◌, refl, sym, ap, subst}
use mathlib.Core.List.{List, [], ◌∷◌, ◌++◌, map}
use mathlib.Core.Logic.{◌⊎◌, inl, inr}
use mathlib.Core.Option.{some}
use Prim.Native.Nat.{ℕ}
use Rattle.visit.specs.Reads.{Each}
use Rattle.ordering.specs.inner.Frame as seen
use Rattle.ordering.specs.Lists.{Among}
use Rattle.ordering.proofs.Base.{some_same, among-append}
pub use mathlib.Core.List.{map-append as map-join, map-map as map-twice}
pub use mathlib.Core.Logic.{⊎_map}
pub use Rattle.ordering.proofs.Base.{none-some as none≢some}

pub among-map : {A B : Type 0} (f : A → B) (x : A) (xs : List A) → Among x xs → Among (f x) (map f xs)
among-map f x [] h = elim h [ ]
among-map f x (y ∷ ys) (inl e) = inl (ap f e)
among-map f x (y ∷ ys) (inr h) = inr (among-map f x ys h)

pub among-back : {A B : Type 0} (f : A → B) (y : B) (xs : List A) → Among y (map f xs) → (x : A) × Among x xs × (f x ≡ y)
among-back f y [] h = elim h [ ]
among-back f y (x ∷ xs) (inl e) = (x, inl refl, sym e)
among-back f y (x ∷ xs) (inr h) = let k = among-back f y xs h in (k.0, inr k.1, k.2)

pub some_inj : {A : Type 0} {x y : A} → some x ≡ some y → x ≡ y
some_inj e = some_same refl e

pub message-inj : {x y : seen.Message} → seen.message x ≡ seen.message y → x ≡ y
message-inj {x} {y} e = ap (λ (f : seen.Frame). elim f [ seen.message z ↦ z | seen.token t ↦ x ]) e

pub among-join : {A : Type 0} (x : A) (xs ys : List A) → Among x (xs ++ ys) → Among x xs ⊎ Among x ys
among-join x xs ys = among-append xs ys x

pub each-among : {A : Type 0} (P : A → Type 0) (x : A) (xs : List A) → Each P xs → Among x xs → P x
each-among P x [] h k = elim k [ ]
each-among P x (y ∷ ys) h (inl e) = subst P (sym e) h.0
each-among P x (y ∷ ys) h (inr k) = each-among P x ys h.1 k

-- the texts of messages
abbrev pub texts : List seen.Message → List (List ℕ)
texts = map (λ (x : seen.Message). x.text)
