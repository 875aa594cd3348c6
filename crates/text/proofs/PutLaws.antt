-- Texts put one after another into a buffer.
use Prim.Native.Nat.{ℕ, ◌+◌, ◌-◌, ◌<◌, ◌≤◌, min}
use mathlib.Core.Path.{◌≡◌, refl, sym, ap, ◌∙◌}
use mathlib.Core.Bool.{Bool, true, false, cond}
use mathlib.Core.List.{List, [], ◌∷◌, ◌++◌, append-nil, flatten}
use native.Mathlib.Nat.{add-zero, add_assoc}
use native.Mathlib.Numerals.{add-one}
use native.Mathlib.Omega.{arith}
use borrow.Author.Tests.{le-leb, lt-leb, leb-true}
use lib.Dec.{leb}
use lib.ListN.{length, get_or, take, length-append}
use lib.Seq.{sets, length-sets, take-suc}
use Rattle.std.proofs.lemmas.Grind.{flat_map-append}
use Rattle.words.proofs.StoreLaws.{sets-append}
use Rattle.text.specs.Text.{Text, Filled, filled, piece, put_piece, put, each, Whole}

-- ---- one piece

module _ (out : List ℕ) (at : ℕ) (bytes : List ℕ) where
  pub put-beyond : length out < at → filled (length out) out ≡ put (piece bytes) (filled at out)
  unfolding put put_piece
  put-beyond h =
      let end : min at (length out) ≡ length out = omega arith in
      rw (lt-leb (at + length bytes) (length out) (omega arith), end)

  pub put-left-out : at ≤ length out → length out - at < length bytes → filled at out ≡ put (piece bytes) (filled at out)
  unfolding put put_piece
  put-left-out h full =
      let here : min at (length out) ≡ at = omega arith in
      rw (lt-leb (at + length bytes) (length out) (omega arith), here)

  pub put-stored : (out' : List ℕ) → at + length bytes ≤ length out → out' ≡ sets out at bytes → filled (at + length bytes) out' ≡ put (piece bytes) (filled at out)
  unfolding put put_piece
  put-stored out' room e = rw (le-leb (at + length bytes) (length out) room, e)

-- a position within the buffer stays within
piece-within : (bytes : List ℕ) (f : Filled) → f.at ≤ length f.out → (put_piece bytes f).at ≤ length (put_piece bytes f).out
unfolding put_piece
piece-within bytes f h = go (leb (f.at + length bytes) (length f.out)) refl
  where
    go : (b : Bool) → leb (f.at + length bytes) (length f.out) ≡ b
        → (cond b (filled (f.at + length bytes) (sets f.out f.at bytes)) (filled (min f.at (length f.out)) f.out)).at
        ≤ length (cond b (filled (f.at + length bytes) (sets f.out f.at bytes)) (filled (min f.at (length f.out)) f.out)).out
    go true e = rw length-sets (leb-true (f.at + length bytes) (length f.out) e)
    go false e = omega arith

text-within : (text : Text) (f : Filled) → f.at ≤ length f.out → (put text f).at ≤ length (put text f).out
unfolding put
text-within [] f h = h
text-within (bytes ∷ text) f h = text-within text (put_piece bytes f) (piece-within bytes f h)

pub stays_within : (text : Text) (before after : Filled) → before.at ≤ length before.out → after ≡ put text before → after.at ≤ length after.out
stays_within text before after h e = rw e (text-within text before h)

-- ---- several

pub put_append : (a b : Text) (f : Filled) → put (a ++ b) f ≡ put b (put a f)
unfolding put
put_append [] b f = refl
put_append (bytes ∷ a) b f = put_append a b (put_piece bytes f)

pub put_then : (a b : Text) (f : Filled) {f₁ f₂ : Filled} → f₁ ≡ put a f → f₂ ≡ put b f₁ → f₂ ≡ put (a ++ b) f
put_then a b f p q = q ∙ ap (put b) p ∙ sym (put_append a b f)

-- with room for all of it, a text is put whole
pub put-room : (text : Text) (at : ℕ) (out : List ℕ)
    → at + length (flatten text) ≤ length out
    → put text (filled at out) ≡ filled (at + length (flatten text)) (sets out at (flatten text))
unfolding put put_piece flatten
put-room [] at out room = rw add-zero
put-room (bytes ∷ text) at out room =
    let long = length-append bytes (flatten text) in
    let fits = le-leb (at + length bytes) (length out) (omega (arith, long, room)) in
    let rest = put-room text (at + length bytes) (sets out at bytes) (rw length-sets (omega (arith, long, room))) in
    rw (fits, rest, long, add_assoc, sets-append)

pub put_whole : {before after : Filled} (text : Text)
    → before.at + length (flatten text) ≤ length before.out
    → after ≡ put text before
    → Whole before (flatten text) after
put_whole {before} {after} text room e =
    let done = e ∙ put-room text before.at before.out room in
    let ends : after.at ≡ before.at + length (flatten text) = ap (λ (f : Filled). f.at) done in
    record { within = omega (arith, ends, room); ends = ends; stored = ap (λ (f : Filled). f.out) done }

-- ---- a loop that puts a text for each

pub each-starts : (f : ℕ → Text) (xs : List ℕ) (start : Filled) → start ≡ put (each f (take 0 xs)) start
unfolding put
each-starts f xs start = refl

pub each_goes : (f : ℕ → Text) (xs : List ℕ) (i : ℕ) (start : Filled) {now next : Filled}
    → i < length xs
    → now ≡ put (each f (take i xs)) start
    → next ≡ put (f (get_or xs i 0)) now
    → next ≡ put (each f (take (i + 1) xs)) start
each_goes f xs i start h p q = rw (add-one i, take-suc xs i 0 h, flat_map-append, append-nil) (put_then _ _ start p q)
