-- New messages: what is held when each has taken the next number. Theorems on a visit use these and not the stores.
use Prim.Native.Nat.{ℕ, zero, suc, ◌+◌, ◌-◌, ◌<◌, ◌≤◌}
use mathlib.Core.Path.{◌≡◌, refl, sym, ap, ◌∙◌}
use mathlib.Core.Logic.{◌≢◌}
use mathlib.Core.Bool.{true}
use mathlib.Core.List.{List, [], ◌∷◌}
use mathlib.Core.Option.{some}
use native.Mathlib.Omega.{arith}
use lib.ListN.{length, get_or}
use Rattle.frames.specs.Layout.{most_content}
use Rattle.record.specs.Size.{most_held}
use Rattle.record.specs.Held.{place_of, holds, log_with, stored}
use Rattle.record.proofs.HeldLaws.{held_at, HeldSizes, sizes-with, stored_same, stored_other, given, holds-is}
use Rattle.record.specs.Posts.{Post}
use Rattle.record.specs.declared.log.Log.{Log}
use Rattle.visit.specs.Visit.{sent_by, with_sent}
use Rattle.visit.specs.Reads.{Each}

abbrev pub Short : List Post → Type 0
Short = Each (λ p. length p.content ≤ most_content)

-- the new numbers, if any, are within the window, and each content fits its place
pub record NewFit (l : Log) (own highest : ℕ) (ps : List Post) : Type 0 where
  pub sizes : HeldSizes l.held
  pub low : l.safe.0 ≤ highest
  pub high : 0 < length ps → highest + length ps ≤ l.safe.0 + most_held
  pub named : own ≢ 0
  pub short : Short ps

-- so are those after the first
pub later-fit : (l : Log) (own highest : ℕ) (p : Post) (ps : List Post)
    → NewFit l own highest (p ∷ ps)
    → NewFit (stored l (suc highest) (sent_by own p)) own (suc highest) ps
later-fit l own highest p ps fit =
    record {
      sizes = sizes-with l.held (place_of (suc highest)) (sent_by own p) fit.sizes fit.short.0;
      low = omega (arith, fit.low);
      high = λ some. omega (arith, fit.high (omega arith));
      named = fit.named;
      short = fit.short.1;
    }

-- ---- all but the messages stays

pub new-rest : (l : Log) (own highest : ℕ) (ps : List Post) → with_sent l own highest ps ≡ log_with l l.level l.safe l.delivered (with_sent l own highest ps).held
unfolding with_sent
new-rest l own highest [] = refl
new-rest l own highest (p ∷ ps) = new-rest (stored l (suc highest) (sent_by own p)) own (suc highest) ps

-- ---- what is held

-- the first new message; the others were held before or will be
module _ (l : Log) (own highest : ℕ) (p : Post) (ps : List Post) (fit : NewFit l own highest (p ∷ ps)) where
  first-same : held_at (stored l (suc highest) (sent_by own p)) (suc highest) ≡ some (sent_by own p)
  first-same = stored_same l (suc highest) (sent_by own p) fit.sizes (omega (arith, fit.low)) (omega (arith, fit.high (omega arith))) fit.named fit.short.0

  first-other : (n : ℕ) → n ≢ suc highest → held_at (stored l (suc highest) (sent_by own p)) n ≡ held_at l n
  first-other = stored_other l (suc highest) (sent_by own p) fit.sizes (omega (arith, fit.low)) (omega (arith, fit.high (omega arith))) fit.named fit.short.0

-- a number up to the highest of before
pub new-below : (l : Log) (own highest : ℕ) (ps : List Post) → NewFit l own highest ps → (n : ℕ) → n ≤ highest → held_at (with_sent l own highest ps) n ≡ held_at l n
unfolding with_sent
new-below l own highest [] fit n h = refl
new-below l own highest (p ∷ ps) fit n h =
    new-below (stored l (suc highest) (sent_by own p)) own (suc highest) ps (later-fit l own highest p ps fit) n (omega arith)
    ∙ first-other l own highest p ps fit n (omega arith)

-- a number above all the new ones
pub new-above : (l : Log) (own highest : ℕ) (ps : List Post) → NewFit l own highest ps → (n : ℕ) → highest + length ps < n → held_at (with_sent l own highest ps) n ≡ held_at l n
unfolding with_sent
new-above l own highest [] fit n h = refl
new-above l own highest (p ∷ ps) fit n h =
    new-above (stored l (suc highest) (sent_by own p)) own (suc highest) ps (later-fit l own highest p ps fit) n (omega arith)
    ∙ first-other l own highest p ps fit n (omega arith)

-- the new ones, in their order
pub new-new : (d : Post) (l : Log) (own highest : ℕ) (ps : List Post)
    → NewFit l own highest ps
    → (i : ℕ)
    → i < length ps
    → held_at (with_sent l own highest ps) (suc (highest + i)) ≡ some (sent_by own (get_or ps i d))
unfolding with_sent
new-new d l own highest [] fit i h = absurd (omega arith)
new-new d l own highest (p ∷ ps) fit zero h =
    let e : suc (highest + 0) ≡ suc highest = omega arith in
    rw e
    (new-below (stored l (suc highest) (sent_by own p)) own (suc highest) ps (later-fit l own highest p ps fit) (suc highest) (omega arith)
    ∙ first-same l own highest p ps fit)
new-new d l own highest (p ∷ ps) fit (suc i) h =
    let e : suc (highest + suc i) ≡ suc (suc highest + i) = omega arith in
    rw e (new-new d (stored l (suc highest) (sent_by own p)) own (suc highest) ps (later-fit l own highest p ps fit) i (omega arith))

-- ---- the same for the test

module _ (l : Log) (own highest : ℕ) (ps : List Post) (fit : NewFit l own highest ps) (n : ℕ) where
  holds_same : held_at (with_sent l own highest ps) n ≡ held_at l n → holds (with_sent l own highest ps) n ≡ holds l n
  holds_same e = sym (holds-is (with_sent l own highest ps) n) ∙ ap given e ∙ holds-is l n

  pub holds-below : n ≤ highest → holds (with_sent l own highest ps) n ≡ holds l n
  holds-below h = holds_same (new-below l own highest ps fit n h)

  pub holds-above : highest + length ps < n → holds (with_sent l own highest ps) n ≡ holds l n
  holds-above h = holds_same (new-above l own highest ps fit n h)

  pub holds-new : highest < n → n ≤ highest + length ps → holds (with_sent l own highest ps) n ≡ true
  holds-new low high =
      let e : suc (highest + (n - suc highest)) ≡ n = omega arith in
      let d : Post = record { service = 0; content = [] } in
      sym (holds-is (with_sent l own highest ps) n) ∙ ap given (rw e at (new-new d l own highest ps fit (n - suc highest) (omega arith)))
