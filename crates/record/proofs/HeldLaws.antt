-- What is held under a number, after a store and after letting go. Theorems on the station use these and not the arrays.
use Prim.Native.Nat.{ℕ, zero, suc, ◌+◌, ◌*◌, ◌-◌, ◌<◌, ◌≤◌}
use mathlib.Core.Path.{◌≡◌, refl, sym, ap, ◌∙◌}
use mathlib.Core.Logic.{◌≢◌}
use mathlib.Core.Bool.{Bool, true, false, not, ◌&&◌, ◌||◌, cond, and-false}
use mathlib.Core.List.{List, [], ◌∷◌}
use mathlib.Core.Option.{Option, none, some}
use borrow.Author.Tests.{lt-ltb, le-ltb, le-leb, lt-leb, eq-eqb, ne_eqb}
use native.Mathlib.Nat.{add-zero, suc-add, add-suc}
use native.Mathlib.Decide.{dec_lt, ℕ_discrete}
use native.Mathlib.Omega.{arith}
use lib.ListN.{length, get_or, set, replicate, length-set, length-replicate}
use lib.Dec.{ltb, eqb}
use lib.Seq.{length-sets, get_or-set_same, get_or-set_other}
use Rattle.frames.specs.Layout.{most_content}
use Rattle.record.specs.Size.{most_held}
use Rattle.record.specs.Held.{Entry, place_of, entry_at, in_window, holds, held_with, stored, cleared, cleared_from, let_go}
use Rattle.record.specs.declared.log.Held.{Held}
use Rattle.record.specs.declared.log.Log.{Log}
use Rattle.record.proofs.Arrays.{HeldArrays}
use Rattle.record.proofs.RangeFacts.{HeldRange}
use Rattle.record.proofs.ListLaws.{content-same, content-other, Most, most-set}

-- ---- sizes

pub record HeldSizes (h : Held) : Type 0 where
  pub arrays : HeldArrays h
  -- no content runs into the next place
  pub short : Most most_content h.lengths

pub held-sizes : (h : Held) → HeldRange h → HeldSizes h
held-sizes h r = record { arrays = r.arrays; short = r.lengths }

pub sizes-with : (h : Held) (place : ℕ) (e : Entry) → HeldSizes h → length e.content ≤ most_content → HeldSizes (held_with h place e)
unfolding held_with
sizes-with h place e s short =
    record {
      arrays =
          record {
            senders = length-set h.senders place e.sender ∙ s.arrays.senders;
            services = length-set h.services place e.service ∙ s.arrays.services;
            lengths = length-set h.lengths place (length e.content) ∙ s.arrays.lengths;
            contents = length-sets h.contents (most_content * place) e.content ∙ s.arrays.contents;
          };
      short = most-set most_content h.lengths place (length e.content) s.short short;
    }

pub sizes-cleared : (h : Held) (place : ℕ) → HeldSizes h → HeldSizes (cleared h place)
unfolding cleared
sizes-cleared h place s =
    record {
      arrays =
          record {
            senders = length-set h.senders place 0 ∙ s.arrays.senders;
            services = length-set h.services place 0 ∙ s.arrays.services;
            lengths = length-set h.lengths place 0 ∙ s.arrays.lengths;
            contents = length-sets h.contents (most_content * place) (replicate most_content 0) ∙ s.arrays.contents;
          };
      short = most-set most_content h.lengths place 0 s.short (omega arith);
    }

pub sizes-cleared-from : (h : Held) (first n : ℕ) → HeldSizes h → HeldSizes (cleared_from h first n)
unfolding cleared_from
sizes-cleared-from h first zero s = s
sizes-cleared-from h first (suc n) s = sizes-cleared-from (cleared h (place_of first)) (suc first) n (sizes-cleared h (place_of first) s)

pub sizes-let-go : (l : Log) (safe : ℕ) → HeldSizes l.held → HeldSizes (let_go l safe).held
unfolding let_go
sizes-let-go l safe s = sizes-cleared-from l.held (suc l.safe.0) (safe - l.safe.0) s

-- ---- the entry at a place

pub entry-same : (h : Held) (place : ℕ) (e : Entry) → HeldSizes h → place < most_held → length e.content ≤ most_content → entry_at (held_with h place e) place ≡ e
unfolding held_with
entry-same h place e s h< short =
    rw (
      get_or-set_same h.senders place e.sender 0 (omega (arith, s.arrays.senders)),
      get_or-set_same h.services place e.service 0 (omega (arith, s.arrays.services)),
      content-same h.lengths h.contents place e.content (omega (arith, s.arrays.lengths)) (omega (arith, s.arrays.contents)),
    )

entry_other : (h : Held) (p place : ℕ) (e : Entry) → HeldSizes h → p ≢ place → length e.content ≤ most_content → entry_at (held_with h place e) p ≡ entry_at h p
unfolding held_with
entry_other h p place e s apart short =
    rw (
      get_or-set_other h.senders place p e.sender 0 apart,
      get_or-set_other h.services place p e.service 0 apart,
      content-other h.lengths h.contents p place (length e.content) e.content apart (s.short p) short,
    )

cleared-other : (h : Held) (p place : ℕ) → HeldSizes h → p ≢ place → entry_at (cleared h place) p ≡ entry_at h p
unfolding cleared
cleared-other h p place s apart =
    rw (
      get_or-set_other h.senders place p 0 0 apart,
      get_or-set_other h.services place p 0 0 apart,
      content-other h.lengths h.contents p place 0 (replicate most_content 0) apart (s.short p) (omega (arith, length-replicate {A = ℕ} most_content 0)),
    )

-- the places of other numbers stay
cleared-from-other : (h : Held) (first n p : ℕ) → HeldSizes h → ((j : ℕ) → j < n → p ≢ place_of (first + j)) → entry_at (cleared_from h first n) p ≡ entry_at h p
unfolding cleared_from
cleared-from-other h first zero p s apart = refl
cleared-from-other h first (suc n) p s apart =
    cleared-from-other (cleared h (place_of first)) (suc first) n p (sizes-cleared h (place_of first) s) later
    ∙ cleared-other h p (place_of first) s (rw add-zero at (apart 0 (omega arith)))
  where
    later : (j : ℕ) → j < n → p ≢ place_of (suc first + j)
    later j j<n = rw (suc-add, ← add-suc first j) (apart (suc j) (omega arith))

-- their own are free
free-kept : (l : List ℕ) (i p : ℕ) → get_or l p 0 ≡ 0 → get_or (set l i 0) p 0 ≡ 0
free-kept [] i p e = refl
free-kept (x ∷ l) zero zero e = refl
free-kept (x ∷ l) zero (suc p) e = e
free-kept (x ∷ l) (suc i) zero e = e
free-kept (x ∷ l) (suc i) (suc p) e = free-kept l i p e

free-made : (l : List ℕ) (i : ℕ) → get_or (set l i 0) i 0 ≡ 0
free-made [] i = refl
free-made (x ∷ l) zero = refl
free-made (x ∷ l) (suc i) = free-made l i

free_stays : (h : Held) (first n p : ℕ) → get_or h.senders p 0 ≡ 0 → get_or (cleared_from h first n).senders p 0 ≡ 0
unfolding cleared cleared_from
free_stays h first zero p e = e
free_stays h first (suc n) p e = free_stays (cleared h (place_of first)) (suc first) n p (free-kept h.senders (place_of first) p e)

freed : (h : Held) (first n j : ℕ) → j < n → get_or (cleared_from h first n).senders (place_of (first + j)) 0 ≡ 0
unfolding cleared cleared_from
freed h first zero j h< = omega arith
freed h first (suc n) zero h< = rw add-zero (free_stays (cleared h (place_of first)) (suc first) n (place_of first) (free-made h.senders (place_of first)))
freed h first (suc n) (suc j) h< = rw (add-suc, ← suc-add) (freed (cleared h (place_of first)) (suc first) n j (omega arith))

-- ---- under a number

-- what is held there
unfoldable pub held_at : Log → ℕ → Option Entry
held_at l number = cond (holds l number) (some (entry_at l.held (place_of number))) none

-- what an entry in or out of the window shows
abbrev seen : Bool → Entry → Option Entry
seen inside e = cond (inside && not (eqb e.sender 0)) (some e) none

seen_at : (l : Log) (i : ℕ) → held_at l i ≡ seen (in_window l i) (entry_at l.held (place_of i))
unfolding held_at holds
seen_at l i = refl

within : (l : Log) (i : ℕ) → l.safe.0 < i → i ≤ l.safe.0 + most_held → in_window l i ≡ true
within l i low high = rw (lt-ltb l.safe.0 i low, le-leb i (l.safe.0 + most_held) high)

below : (l : Log) (i : ℕ) → i ≤ l.safe.0 → in_window l i ≡ false
below l i low = rw (le-ltb l.safe.0 i low)

above : (l : Log) (i : ℕ) → l.safe.0 + most_held < i → in_window l i ≡ false
above l i high = simp (lt-leb i (l.safe.0 + most_held) high, and-false)

-- ---- a message is held under a number of the window

module _ (l : Log) (number : ℕ) (e : Entry) (s : HeldSizes l.held)
    (low : l.safe.0 < number) (high : number ≤ l.safe.0 + most_held)
    (named : e.sender ≢ 0) (short : length e.content ≤ most_content) where
  pub stored_same : held_at (stored l number e) number ≡ some e
  stored_same =
      seen_at (stored l number e) number
      ∙ ap (seen (in_window l number)) (entry-same l.held (place_of number) e s (omega arith) short)
      ∙ rw (within l number low high, ne_eqb e.sender 0 named)

  pub stored_other : (i : ℕ) → i ≢ number → held_at (stored l number e) i ≡ held_at l i
  stored_other i other =
      seen_at (stored l number e) i
      ∙ elim (dec_lt l.safe.0 i) [
        | no h ↦ rw (below l i (omega arith))
        | yes h ↦ elim (dec_lt (l.safe.0 + most_held) i) [
          | yes k ↦ rw (above l i k)
          | no k ↦ ap (seen (in_window l i)) (entry_other l.held (place_of i) (place_of number) e s (omega arith) short)
        ]
      ]
      ∙ sym (seen_at l i)

  pub stored_at : (i : ℕ) → held_at (stored l number e) i ≡ cond (eqb i number) (some e) (held_at l i)
  stored_at i =
      elim (ℕ_discrete i number) [
        | yes q ↦ rw (q, eq-eqb number number refl) stored_same
        | no q ↦ rw (ne_eqb i number q) (stored_other i q)
      ]

-- ---- everything up to a new safe mark is let go

module _ (l : Log) (safe : ℕ) (s : HeldSizes l.held) (low : l.safe.0 ≤ safe) (high : safe ≤ l.safe.0 + most_held) where
  -- a number of the new window that the old one had not: its place is that of a number let go
  new-free : (i : ℕ) → l.safe.0 + most_held < i → i ≤ safe + most_held → (inside : Bool) → seen inside (entry_at (let_go l safe).held (place_of i)) ≡ none
  unfolding let_go
  new-free i above-old below_new inside =
      let first = suc l.safe.0 in
      let j = i - (most_held + first) in
      let e : place_of (first + j) ≡ place_of i = omega arith in
      let free = freed l.held first (safe - l.safe.0) j (omega arith) in
      rw (rw e at free) (simp and-false)

  new-unheld : (i : ℕ) → l.safe.0 + most_held < i → seen (in_window (let_go l safe) i) (entry_at (let_go l safe).held (place_of i)) ≡ none
  unfolding let_go
  new-unheld i h =
      elim (dec_lt (safe + most_held) i) [
        | yes k ↦ rw (above (let_go l safe) i k)
        | no k ↦ new-free i h (omega arith) (in_window (let_go l safe) i)
      ]

  pub let-go-below : (i : ℕ) → i ≤ safe → held_at (let_go l safe) i ≡ none
  unfolding let_go
  let-go-below i h = seen_at (let_go l safe) i ∙ rw (below (let_go l safe) i h)

  -- a number of both windows
  kept : (i : ℕ) → safe < i → i ≤ l.safe.0 + most_held → entry_at (let_go l safe).held (place_of i) ≡ entry_at l.held (place_of i)
  unfolding let_go
  kept i h k = cleared-from-other l.held (suc l.safe.0) (safe - l.safe.0) (place_of i) s (λ j j<. omega arith)

  pub let-go-above : (i : ℕ) → safe < i → held_at (let_go l safe) i ≡ held_at l i
  unfolding let_go
  let-go-above i h =
      seen_at (let_go l safe) i
      ∙ elim (dec_lt (l.safe.0 + most_held) i) [
        | yes k ↦ rw (above l i k) (new-unheld i k)
        | no k ↦ rw (within l i (omega arith) (omega arith), within (let_go l safe) i h (omega arith)) (ap (seen true) (kept i h (omega arith)))
      ]
      ∙ sym (seen_at l i)

  pub let-go-at : (i : ℕ) → held_at (let_go l safe) i ≡ cond (ltb safe i) (held_at l i) none
  let-go-at i =
      elim (dec_lt safe i) [
        | yes h ↦ rw (lt-ltb safe i h) (let-go-above i h)
        | no h ↦ rw (le-ltb safe i (omega arith)) (let-go-below i (omega arith))
      ]

-- ---- the same for the test

-- is there an entry?
abbrev pub given : Option Entry → Bool
given none = false
given (some e) = true

given-cond : (b : Bool) (e : Entry) → given (cond b (some e) none) ≡ b
given-cond true e = refl
given-cond false e = refl

pub holds-is : (l : Log) (i : ℕ) → given (held_at l i) ≡ holds l i
unfolding held_at
holds-is l i = given-cond (holds l i) (entry_at l.held (place_of i))

pub given-or : (b : Bool) (e : Entry) (x : Option Entry) → given (cond b (some e) x) ≡ b || given x
given-or true e x = refl
given-or false e x = refl

given-and : (b : Bool) (x : Option Entry) → given (cond b x none) ≡ b && given x
given-and true x = refl
given-and false x = refl

pub holds-stored : (l : Log) (number : ℕ) (e : Entry)
    → HeldSizes l.held
    → l.safe.0 < number
    → number ≤ l.safe.0 + most_held
    → e.sender ≢ 0
    → length e.content ≤ most_content
    → (i : ℕ)
    → holds (stored l number e) i ≡ eqb i number || holds l i
holds-stored l number e s low high named short i =
    sym (holds-is (stored l number e) i)
    ∙ ap given (stored_at l number e s low high named short i)
    ∙ given-or (eqb i number) e (held_at l i)
    ∙ ap (λ b. eqb i number || b) (holds-is l i)

pub holds-let-go : (l : Log) (safe : ℕ) → HeldSizes l.held → l.safe.0 ≤ safe → safe ≤ l.safe.0 + most_held → (i : ℕ) → holds (let_go l safe) i ≡ ltb safe i && holds l i
holds-let-go l safe s low high i =
    sym (holds-is (let_go l safe) i)
    ∙ ap given (let-go-at l safe s low high i)
    ∙ given-and (ltb safe i) (held_at l i)
    ∙ ap (λ b. ltb safe i && b) (holds-is l i)
