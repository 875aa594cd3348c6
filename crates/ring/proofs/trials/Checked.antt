-- A test that a list of calls can be made, for closed lists.
use Prim.Native.Nat.{ℕ}
use mathlib.Core.Path.{◌≡◌, refl, ◌∙◌, ap}
use mathlib.Core.Bool.{Bool, true, false, ◌&&◌, ◌||◌, and-false, false≢true}
use mathlib.Core.List.{List, [], ◌∷◌}
use mathlib.Core.Logic.{◌⊎◌, inl, inr}
use borrow.Author.Tests.{eqb-true, ltb-true}
use lib.ListN.{length}
use lib.Dec.{ltb, eqb}
use Rattle.frames.specs.trials.Trials.{same}
use Rattle.frames.proofs.Facts.{part}
use Rattle.record.specs.declared.Record.{Record}
use Rattle.ordering.specs.Lists.{Among}
use Rattle.ring.specs.Calls.{Call, post, arrival, resending, station_of}
use Rattle.ring.specs.History.{Event, Written, written_at, written_in, OnCable}
use Rattle.ring.specs.Run.{Ring, start, first_frame, step, run, account_of, structs}
use Rattle.ring.specs.Demand.{Handed, CanAfter}
use Rattle.ring.proofs.runs.Going.{Possible}
use Rattle.ring.proofs.runs.Split.{can-after}

-- ---- a frame is on the cable

unfoldable pub any_frame : List ℕ → List Written → Bool
any_frame f [] = false
any_frame f (w ∷ ws) = same f w.frame || any_frame f ws

abbrev pub on_cable : List ℕ → List Event → List ℕ → Bool
on_cable first history f = same f first || any_frame f (written_in history)

same_true : (xs ys : List ℕ) → same xs ys ≡ true → xs ≡ ys
same_true [] [] e = refl
same_true [] (y ∷ ys) e = absurd (false≢true e)
same_true (x ∷ xs) [] e = absurd (false≢true e)
same_true (x ∷ xs) (y ∷ ys) e =
    let first : x ≡ y = eqb-true x y (part e (λ (f : eqb x y ≡ false). rw f)) in
    let rest : xs ≡ ys = same_true xs ys (part e (λ (f : same xs ys ≡ false). simp (f, and-false))) in
    ap (λ z. z ∷ xs) first ∙ ap (λ zs. y ∷ zs) rest

either : (a b : Bool) → (a || b) ≡ true → (a ≡ true) ⊎ (b ≡ true)
either true b e = inl refl
either false b e = inr e

any-among : (f : List ℕ) (ws : List Written) → any_frame f ws ≡ true → (place : ℕ) × Among (written_at place f) ws
unfolding any_frame
any-among f [] e = absurd (false≢true e)
any-among f (w ∷ ws) e = by_first (either (same f w.frame) (any_frame f ws) e) (any-among f ws)
  where
    by_first : (same f w.frame ≡ true) ⊎ (any_frame f ws ≡ true) → (any_frame f ws ≡ true → (place : ℕ) × Among (written_at place f) ws) → (place : ℕ) × Among (written_at place f) (w ∷ ws)
    by_first (inl s) rest = (w.place, inl (ap (written_at w.place) (same_true f w.frame s)))
    by_first (inr s) rest = let a = rest s in (a.0, inr a.1)

on-cable : (first : List ℕ) (history : List Event) (f : List ℕ) → on_cable first history f ≡ true → OnCable (first ∷ []) history f
on-cable first history f e = by_first (either (same f first) (any_frame f (written_in history)) e)
  where
    by_first : (same f first ≡ true) ⊎ (any_frame f (written_in history) ≡ true) → OnCable (first ∷ []) history f
    by_first (inl s) = inl (inl (same_true f first s))
    by_first (inr s) = inr (any-among f (written_in history) s)

-- ---- the calls can be made

abbrev pub handed : List ℕ → List Event → Call → Bool
handed first history (post place service content) = true
handed first history (arrival place frame frames deliveries) = on_cable first history frame
handed first history (resending place frames) = true

unfoldable pub possible : ℕ → List ℕ → Ring Record → List Call → Bool
possible size first s [] = true
possible size first s (c ∷ cs) = ltb (station_of c) size && handed first s.history c && possible size first (step structs s c) cs

handed-over : (first : List ℕ) (history : List Event) (c : Call) → handed first history c ≡ true → Handed (first ∷ []) history c
handed-over first history (post place service content) e = tt
handed-over first history (arrival place frame frames deliveries) e = on-cable first history frame e
handed-over first history (resending place frames) e = tt

is-possible : (size : ℕ) (first : List ℕ) (s : Ring Record) (cs : List Call) → possible size first s cs ≡ true → Possible size first s cs
unfolding possible
is-possible size first s [] e = tt
is-possible size first s (c ∷ cs) e = (
  ltb-true (station_of c) size (part e (λ (f : ltb (station_of c) size ≡ false). rw f)),
  handed-over first s.history c (part e (λ (f : handed first s.history c ≡ false). simp (f, and-false))),
  is-possible size first (step structs s c) cs (part e (λ (f : possible size first (step structs s c) cs ≡ false). simp (f, and-false))),
)

module _ (members : List ℕ) (ring : ℕ) (founded : ℕ → Record) where
  pub can-be-made : (cs : List Call) → possible (length members) (first_frame members ring) (start founded) cs ≡ true → CanAfter members ring (account_of structs founded) [] cs
  unfolding run
  can-be-made cs e = can-after members ring founded [] cs (is-possible (length members) (first_frame members ring) (start founded) cs e)
