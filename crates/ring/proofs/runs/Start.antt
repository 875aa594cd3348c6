-- The start: founding's records, and the ring's first token.
use Rattle.std.specs.Prelude.{Ok}
use Prim.Native.Nat.{ℕ, zero, suc, ◌<◌, ◌≤◌}
use mathlib.Core.Path.{◌≡◌, refl, sym, ◌∙◌, ap, fun_ext}
use mathlib.Core.Bool.{Bool, true, false, not, ◌&&◌, and-false, false≢true}
use mathlib.Core.List.{List, [], ◌∷◌}
use mathlib.Core.Option.{none}
use borrow.Author.Tests.{eq-eqb, leb-true}
use native.Mathlib.Omega.{arith}
use lib.ListN.{length, get_or, replicate}
use lib.Dec.{leb, eqb}
use Rattle.words.specs.Scan.{every, lacks, distinct}
use Rattle.frames.specs.Token.{token_bytes}
use Rattle.frames.specs.Read.{read_of, a_token}
use Rattle.frames.proofs.Facts.{part}
use Rattle.frames.proofs.Restored.{token-restored}
use Rattle.frames.proofs.Rewritten.{message-not-token}
use Rattle.record.specs.Size.{most_held}
use Rattle.record.specs.Held.{place_of, in_use, in_window, holds}
use Rattle.record.proofs.HeldLaws.{held_at}
use Rattle.record.specs.Members.{is_member, members_counted, ids_follow, ring_in_range}
use Rattle.record.specs.Ring.{current}
use Rattle.record.specs.Fresh.{fresh_held, fresh_log, fresh_turn, fresh}
use Rattle.record.proofs.ListLaws.{most-zeros}
use Rattle.record.proofs.FreshLaws.{placed-front}
use Rattle.station.specs.Reply.{Reply}
use Rattle.visit.specs.Deliver.{ring_header}
use Rattle.station.specs.Found.{first_token, founded}
use Rattle.station.specs.declared.answer.Answer.TheVariants.{Founded}
use Rattle.station.proofs.FoundLaws.{foundable-when, first-follows}
use Rattle.ordering.specs.inner.Frame as seen
use Rattle.ordering.specs.Lists.{Distinct}
use Rattle.ordering.specs.inner.Station.{Station, Store}
use Rattle.ordering.specs.inner.Run as ordered
use Rattle.ring.specs.Run.{ring_foundable, OneFirst, records, first_frame, ring_of, founded_at}
use Rattle.ring.proofs.seen.View.{store_of, resendable_of, station_seen, frame_seen}
use Rattle.ring.proofs.seen.Law.{Rewrites}
pub use Rattle.ring.proofs.seen.FrameLaws.{token-seen}

-- a member's id is among them
pub own-among : (members : List ℕ) (p : ℕ) → p < length members → is_member members (get_or members p 0) ≡ true
unfolding every
own-among [] p h = absurd (omega arith)
own-among (x ∷ xs) zero h = rw (eq-eqb x x refl)
own-among (x ∷ xs) (suc p) h = by_first (eqb x (get_or xs p 0)) (own-among xs p (omega arith))
  where
    by_first : (b : Bool) → is_member xs (get_or xs p 0) ≡ true → not (not b && every (λ y after. not (eqb y (get_or xs p 0))) xs) ≡ true
    by_first true h = refl
    by_first false h = h

-- a ring that can be founded
pub record RingFacts (members : List ℕ) (ring : ℕ) : Type 0 where
  pub counted : members_counted members ≡ true
  pub follow : ids_follow members ≡ true
  pub ranged : ring_in_range ring ≡ true

pub ring-facts : (members : List ℕ) (ring : ℕ) → ring_foundable members ring ≡ true → RingFacts members ring
unfolding ring_foundable
ring-facts members ring e =
    record {
      counted = part e (λ (f : members_counted members ≡ false). rw f);
      follow = part e (λ (f : ids_follow members ≡ false). simp (f, and-false));
      ranged = part e (λ (f : ring_in_range ring ≡ false). simp (f, and-false));
    }

-- an id that a list lacks stands at no place of it
lacks-at : (x : ℕ) (xs : List ℕ) → lacks xs x ≡ true → (i : ℕ) → i < length xs → get_or xs i 0 ≡ x → ⊥
unfolding every
lacks-at x [] e i h f = omega arith
lacks-at x (y ∷ ys) e zero h f = absurd (false≢true (sym (ap not (eq-eqb y x f)) ∙ part e (λ (g : not (eqb y x) ≡ false). rw g)))
lacks-at x (y ∷ ys) e (suc i) h f = lacks-at x ys (part e (λ (g : every (λ z after. not (eqb z x)) ys ≡ false). simp (g, and-false))) i (omega arith) f

distinct-at : (xs : List ℕ) → distinct xs ≡ true → Distinct xs
unfolding every
distinct-at [] e i j hi hj f = absurd (omega arith)
distinct-at (x ∷ xs) e zero zero hi hj f = refl
distinct-at (x ∷ xs) e zero (suc j) hi hj f = absurd (lacks-at x xs (part e (λ (g : lacks xs x ≡ false). rw g)) j (omega arith) (sym f))
distinct-at (x ∷ xs) e (suc i) zero hi hj f = absurd (lacks-at x xs (part e (λ (g : lacks xs x ≡ false). rw g)) i (omega arith) f)
distinct-at (x ∷ xs) e (suc i) (suc j) hi hj f =
    ap suc (distinct-at xs (part e (λ (g : distinct xs ≡ false). simp (g, and-false))) i j (omega arith) (omega arith) f)

pub ids-distinct : (members : List ℕ) → ids_follow members ≡ true → Distinct members
unfolding ids_follow
ids-distinct members e = distinct-at members (part e (λ (f : distinct members ≡ false). simp (f, and-false)))

module _ (members : List ℕ) (ring : ℕ) (counted : members_counted members ≡ true) (follow : ids_follow members ≡ true) (ranged : ring_in_range ring ≡ true) where
  -- what founding at a place leaves and writes
  pub founded-at : (p : ℕ) → p < length members
      → founded_at members ring p ≡ record { answer = Ok Founded; rec = fresh members (get_or members p 0) ring; frames = token_bytes (first_token members ring); deliveries = [] }
  unfolding founded
  founded-at p h = rw (counted, follow, own-among members p h, ranged)

  pub some-member : 2 ≤ length members
  some-member = leb-true 2 (length members) (part counted (λ (f : leb 2 (length members) ≡ false). rw f))

  first-frame : first_frame members ring ≡ token_bytes (first_token members ring)
  first-frame = ap (λ (r : Reply). r.frames) (founded-at 0 (omega (arith, some-member)))

  pub first_reads : read_of (first_frame members ring) ≡ a_token (first_token members ring)
  first_reads =
      ap read_of first-frame
      ∙ token-restored (first_token members ring) (first-follows members (get_or members 0 0) ring (foundable-when members (get_or members 0 0) ring counted follow (own-among members 0 (omega (arith, some-member))) ranged))

  -- it is seen as the first token
  pub starts : frame_seen (ring_of members ring) (first_frame members ring) ≡ seen.token (ordered.founding_token members (first_frame members ring))
  unfolding first_token
  starts = token-seen (ring_of members ring) (first_frame members ring) (first_token members ring) first_reads

  pub first-rewrites : Rewrites (first_frame members ring)
  first-rewrites m e = absurd (message-not-token m (first_token members ring) (sym e ∙ first_reads))

  -- ---- the records

  free : (n : ℕ) → get_or {A = ℕ} (replicate most_held 0) n 0 ≡ 0
  free n = omega (arith, most-zeros 0 most_held n)

  not-in-use : (place : ℕ) → in_use fresh_held place ≡ false
  unfolding fresh_held
  not-in-use place = rw (free place)

  holds-none : (n : ℕ) → holds (fresh_log members ring) n ≡ false
  unfolding holds fresh_log
  holds-none n = ap (λ (b : Bool). in_window (fresh_log members ring) n && b) (not-in-use (place_of n)) ∙ and-false (in_window (fresh_log members ring) n)

  fresh-store : store_of (fresh_log members ring) ≡ (λ n. none)
  unfolding store_of held_at
  fresh-store = fun_ext (λ n. rw (holds-none n))

  abbrev start_with : List ℕ → ℕ → Store → Station
  start_with ms own held =
      record { members = ms; own = own; level = 0; safe = 0; delivered = 0; aru = 0; last = 0; resendable = none; held = held }

  fresh-seen : (own : ℕ) → station_seen (fresh members own ring) ≡ start_with members own (λ n. none)
  unfolding station_seen resendable_of fresh fresh_log fresh_turn
  fresh-seen own =
      ap (λ ms. start_with ms own (store_of (fresh_log members ring))) (placed-front members)
      ∙ ap (start_with members own) fresh-store

  pub station-starts : (p : ℕ) → p < length members → station_seen (records members ring p) ≡ ordered.fresh members p
  station-starts p h =
      ap (λ (r : Reply). station_seen r.rec) (founded-at p h) ∙ fresh-seen (get_or members p 0)

  pub ring-starts : (p : ℕ) → p < length members → ring_header (current (records members ring p)) ≡ ring_of members ring
  unfolding fresh fresh_log
  ring-starts p h = ap (λ (r : Reply). ring_header (current r.rec)) (founded-at p h) ∙ rw (placed-front members)

-- every founding writes the same token
pub one-first : OneFirst
one-first members ring foundable p h =
    let f = ring-facts members ring foundable in
    ap (λ (r : Reply). r.frames) (founded-at members ring f.counted f.follow f.ranged p h)
    ∙ sym (first-frame members ring f.counted f.follow f.ranged)
