-- 18, place by place.
use Prim.Native.Nat.{ℕ, suc, ◌+◌, ◌-◌, ◌<◌, ◌≤◌}
use mathlib.Core.Path.{◌≡◌, sym, ◌∙◌}
use mathlib.Core.Bool.{Bool, false, not, ◌||◌}
use mathlib.Core.List.{List}
use borrow.Author.Tests.{le-leb, lt-leb, le-ltb, lt-ltb}
use native.Mathlib.Decide.{dec_lt}
use native.Mathlib.Omega.{arith}
use lib.ListN.{get_or}
use lib.Dec.{leb, ltb, eqb}
use Rattle.record.specs.Size.{most_held}
use Rattle.record.specs.Count.{every_from}
use Rattle.record.specs.Held.{place_of, holds}
use Rattle.record.specs.declared.log.Log.{Log}
use Rattle.record.proofs.PlaceLaws.{before_in, by_place, before-place, held-in-place}
use Rattle.record.proofs.HeldNumbers.{held-within}
use Rattle.visit.specs.Acceptable.{covers_held}

-- the question of a place, as the code asks
abbrev pub place_covered : List ℕ → ℕ → ℕ → ℕ → Bool
place_covered senders covered safe i = ltb (before_in safe i) covered || not (not (eqb (get_or senders i 0) 0))

module _ (l : Log) (highest : ℕ) where
  pub covers_below : highest < l.level.0 → false ≡ covers_held l highest
  unfolding covers_held
  covers_below h = rw (lt-leb l.level.0 highest h)

  abbrev number : ℕ → ℕ
  number j = suc l.safe.0 + j

  reached : (j : ℕ) → ltb j (highest - l.safe.0) ≡ leb (number j) highest
  reached j =
      elim (dec_lt j (highest - l.safe.0)) [
        | yes h ↦ rw (lt-ltb j (highest - l.safe.0) h, le-leb (number j) highest (omega arith))
        | no h ↦ rw (le-ltb j (highest - l.safe.0) (omega arith), lt-leb (number j) highest (omega arith))
      ]

  -- the number's question is its place's
  same : (j : ℕ) → j < most_held → place_covered l.held.senders (highest - l.safe.0) l.safe.0 (place_of (number j)) ≡ (leb (number j) highest || not (holds l (number j)))
  same j h = rw (before-place l.safe.0 j h, reached j, held-in-place l j h)

  pub covers-by-place : (good : Bool)
      → l.level.0 ≤ highest
      → good ≡ every_from (place_covered l.held.senders (highest - l.safe.0) l.safe.0) 0 most_held
      → good ≡ covers_held l highest
  unfolding covers_held
  covers-by-place good h e = e ∙ rw (le-leb l.level.0 highest h) (by_place l.safe.0 _ (λ n. leb n highest || not (holds l n)) same ∙ sym (held-within l highest))
