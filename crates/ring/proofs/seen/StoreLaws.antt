-- What a log holds, as ordering sees it: after a store, after letting go, how far the level rises, what is due.
use Prim.Native.Nat.{ℕ, zero, suc, ◌+◌, ◌-◌, ◌<◌, ◌≤◌}
use mathlib.Core.Path.{◌≡◌, refl, ap, ◌∙◌, fun_ext}
use mathlib.Core.Logic.{◌≢◌}
use mathlib.Core.Bool.{Bool, true, false, not, cond}
use mathlib.Core.List.{[], ◌∷◌, map}
use mathlib.Core.Option.{Option, none, some}
use borrow.Author.Tests.{eqb-true}
use native.Mathlib.Omega.{arith}
use lib.ListN.{length}
use lib.Dec.{ltb, eqb}
use Rattle.frames.specs.Layout.{most_content}
use Rattle.record.specs.Size.{most_held}
use Rattle.record.specs.Held.{Entry, holds, stored, let_go}
use Rattle.record.proofs.HeldLaws.{held_at, HeldSizes, stored_at, let-go-at, given as entry_given, holds-is}
use Rattle.record.specs.declared.log.Log.{Log}
use Rattle.record.proofs.WholeFacts.{LogGood}
use Rattle.visit.specs.Level.{reached, level_of, raised}
use Rattle.visit.proofs.DueLaws.{due_from, due-is}
use Rattle.visit.specs.Deliver.{ring_header, frame_with, entry_of, is_agreed, is_due, due, delivered}
use Rattle.ordering.specs.inner.Frame as seen
use Rattle.ordering.specs.inner.Station as abstract
use Rattle.ring.proofs.seen.View.{message_of, message_at, store_of}

-- ---- logs of one ring

-- the message that is held under a number
abbrev pub message_held : Log → ℕ → seen.Message
message_held l n = message_of l n (entry_of l n)

pub message-same : (k l : Log) (n : ℕ) (e : Entry) → ring_header k ≡ ring_header l → message_of k n e ≡ message_of l n e
unfolding frame_with
message-same k l n e h = rw h

pub at_same : (k l : Log) (n : ℕ) (o : Option Entry) → ring_header k ≡ ring_header l → message_at k n o ≡ message_at l n o
at_same k l n none h = refl
at_same k l n (some e) h = ap some (message-same k l n e h)

-- they hold the same messages
pub store_same : (k l : Log) → ring_header k ≡ ring_header l → ((n : ℕ) → held_at k n ≡ held_at l n) → store_of k ≡ store_of l
unfolding store_of
store_same k l h held = fun_ext (λ n. ap (message_at k n) (held n) ∙ at_same k l n (held_at l n) h)

-- the marks of level and delivered aside, nothing changes
pub store-raised : (l : Log) → store_of (raised l) ≡ store_of l
unfolding raised held_at holds
store-raised l = store_same (raised l) l refl (λ n. refl)

pub store-delivered : (l : Log) (safe : ℕ) → store_of (delivered l safe) ≡ store_of l
unfolding delivered held_at holds
store-delivered l safe = store_same (delivered l safe) l refl (λ n. refl)

-- ---- is a number held?

given-at : (l : Log) (n : ℕ) (o : Option Entry) → abstract.given (message_at l n o) ≡ entry_given o
given-at l n none = refl
given-at l n (some e) = refl

pub store_given : (l : Log) (n : ℕ) → abstract.given (store_of l n) ≡ holds l n
unfolding store_of
store_given l n = given-at l n (held_at l n) ∙ holds-is l n

at_held : (l : Log) (n : ℕ) (b : Bool) → b ≡ true → message_at l n (cond b (some (entry_of l n)) none) ≡ some (message_held l n)
at_held l n b e = rw e

pub store-held : (l : Log) (n : ℕ) → holds l n ≡ true → store_of l n ≡ some (message_held l n)
unfolding store_of held_at
store-held l n e = at_held l n (holds l n) e

-- ---- a message is held under a number of the window

put-at : (l : Log) (number : ℕ) (e : Entry) (i : ℕ) (b : Bool) → eqb i number ≡ b → (o : Option Entry)
    → message_at l i (cond b (some e) o) ≡ cond b (some (message_of l number e)) (message_at l i o)
put-at l number e i true q o = rw (eqb-true i number q)
put-at l number e i false q o = refl

pub store_stored : (l : Log) (number : ℕ) (e : Entry)
    → HeldSizes l.held
    → l.safe.0 < number
    → number ≤ l.safe.0 + most_held
    → e.sender ≢ 0
    → length e.content ≤ most_content
    → store_of (stored l number e) ≡ abstract.put (message_of l number e) (store_of l)
unfolding store_of abstract.put
store_stored l number e s low high named short =
    fun_ext (λ i.
    at_same (stored l number e) l i (held_at (stored l number e) i) refl
    ∙ ap (message_at l i) (stored_at l number e s low high named short i)
    ∙ put-at l number e i (eqb i number) refl (held_at l i))

-- ---- everything up to a new safe mark is let go

release-at : (l : Log) (i : ℕ) (b : Bool) (o : Option Entry) → message_at l i (cond b o none) ≡ cond b (message_at l i o) none
release-at l i true o = refl
release-at l i false o = refl

let-go-ring : (l : Log) (safe : ℕ) → ring_header (let_go l safe) ≡ ring_header l
unfolding let_go
let-go-ring l safe = refl

pub store-let-go : (l : Log) (safe : ℕ)
    → HeldSizes l.held
    → l.safe.0 ≤ safe
    → safe ≤ l.safe.0 + most_held
    → store_of (let_go l safe) ≡ abstract.release safe (store_of l)
unfolding store_of abstract.release
store-let-go l safe s low high =
    fun_ext (λ i.
    at_same (let_go l safe) l i (held_at (let_go l safe) i) (let-go-ring l safe)
    ∙ ap (message_at l i) (let-go-at l safe s low high i)
    ∙ release-at l i (ltb safe i) (held_at l i))

-- ---- the level

pub reached-same : (f g : ℕ → Bool) → ((n : ℕ) → f n ≡ g n) → (most level : ℕ) → abstract.reached f most level ≡ reached g most level
unfolding abstract.reached reached
reached-same f g e zero level = refl
reached-same f g e (suc most) level = rw (e (suc level), reached-same f g e most (suc level))

pub level-same : (l : Log) (level : ℕ) → level ≡ l.level.0 → abstract.level_of (store_of l) level ≡ level_of l
unfolding level_of
level-same l level e = rw e (reached-same (λ n. abstract.given (store_of l n)) (holds l) (store_given l) most_held l.level.0)

-- ---- what is due

-- agreed, or at most the safe mark
not-not : (b : Bool) → not (not b) ≡ b
not-not true = refl
not-not false = refl

-- all of `left` numbers after d are held
abbrev pub HeldAfter : Log → ℕ → ℕ → Type 0
HeldAfter l d left = (n : ℕ) → d < n → n ≤ d + left → holds l n ≡ true

pub due-from-same : (l : Log) (safe left d : ℕ) → HeldAfter l d left → abstract.due (store_of l) safe left d ≡ map (message_held l) (due_from l safe (suc d) left)
unfolding abstract.due due_from
due-from-same l safe zero d held = refl
due-from-same l safe (suc left) d held =
    rw (abstract.due, store-held l (suc d) (held (suc d) (omega arith) (omega arith)), not-not (is_agreed (entry_of l (suc d))))
    (go (is_due l safe (suc d)) (due-from-same l safe left (suc d) (λ n a b. held n (omega arith) (omega arith))))
  where
    go : (b : Bool) → abstract.due (store_of l) safe left (suc d) ≡ map (message_held l) (due_from l safe (suc (suc d)) left)
        → cond b (message_held l (suc d) ∷ abstract.due (store_of l) safe left (suc d)) [] ≡ map (message_held l) (cond b (suc d ∷ due_from l safe (suc (suc d)) left) [])
    go true rest = rw rest
    go false rest = refl

-- everything from above the delivered mark to the level is held
abbrev pub HeldToDeliver : Log → Type 0
HeldToDeliver l = (n : ℕ) → l.delivered.0 < n → n ≤ l.level.0 → holds l n ≡ true

pub good-held : (l : Log) → LogGood l → HeldToDeliver l
good-held l g n above below = let m = g.ready.marks in m.to_level n (omega (arith, m.safe_first)) below

pub due-same : (l : Log) (safe : ℕ) → HeldToDeliver l → abstract.due (store_of l) safe (l.level.0 - l.delivered.0) l.delivered.0 ≡ map (message_held l) (due l safe)
due-same l safe held = rw (due-is l safe) (due-from-same l safe (l.level.0 - l.delivered.0) l.delivered.0 (λ n a b. held n a (omega arith)))
