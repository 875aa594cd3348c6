-- The numbers of requests, taken out of their places and put in.
use Prim.Native.Nat.{ℕ, ◌<◌}
use mathlib.Core.Path.{◌≡◌, refl, sym, ap, ◌∙◌}
use mathlib.Core.List.{List, [], ◌∷◌, map}
use native.Mathlib.Omega.{arith}
use lib.ListN.{length, get_or, length-map}
use Rattle.std.proofs.lemmas.List.{same_lists, get_or-map}
use Rattle.frames.specs.Token.{numbers_in, numbered}
use Rattle.frames.specs.declared.number.MessageNumber.{MessageNumber}

pub numbers-back : (ns : List ℕ) → numbers_in (numbered ns) ≡ ns
unfolding numbers_in numbered
numbers-back [] = refl
numbers-back (n ∷ ns) = ap (λ ms. n ∷ ms) (numbers-back ns)

pub numbered-back : (ns : List MessageNumber) → numbered (numbers_in ns) ≡ ns
unfolding numbers_in numbered
numbered-back [] = refl
numbered-back (n ∷ ns) = ap (λ ms. n ∷ ms) (numbered-back ns)

-- a list that has at each place f of what xs has there
pub mapped : {A B : Type 0} (f : A → B) (xs : List A) (ys : List B) (a : A)
    → length ys ≡ length xs
    → ((k : ℕ) (b : B) → k < length xs → get_or ys k b ≡ f (get_or xs k a))
    → ys ≡ map f xs
mapped f xs ys a size each =
    let long = length-map xs f in
    same_lists ys (map f xs) (size ∙ sym long) (λ k b h. each k b (omega (arith, size)) ∙ sym (get_or-map f xs k a b (omega (arith, size))))
