-- Fields in range: what the types alone tell, and what the code tests.
use Prim.Native.Nat.{ℕ, suc, ◌+◌, ◌≤◌}
use mathlib.Core.Path.{◌≡◌, sym, ◌∙◌}
use mathlib.Core.Bool.{Bool, true, false, not, ◌&&◌, ◌||◌, and-true, and-false, or-true, not-not}
use borrow.Author.Tests.{eq-eqb, le-leb, lt-leb, lt-ltb, le-ltb}
use native.Mathlib.Decide.{dec_lt}
use native.Mathlib.Omega.{arith}
use lib.ListN.{length, get_or}
use lib.Dec.{leb, ltb, eqb}
use Rattle.words.specs.Scan.{all_within}
use Rattle.frames.specs.Number.{most_number, most_id}
use Rattle.frames.specs.Layout.{most_service, most_content, longest_token}
use Rattle.record.specs.Size.{most_members, most_held, most_posts, most_broadcasts, most_stall, held_contents, post_contents}
use Rattle.record.specs.Count.{every_from}
use Rattle.record.specs.Held.{place_of, in_use}
use Rattle.record.specs.Whole.{held_in_range, numbers_in_range, log_in_range, turn_in_range, posts_in_range}
use Rattle.record.specs.declared.log.Held.{Held}
use Rattle.record.specs.declared.log.Log.{Log}
use Rattle.record.specs.declared.turn.Turn.{Turn}
use Rattle.record.specs.declared.posts.Posts.{Posts}
use Rattle.record.proofs.ListLaws.{all-within}
use Rattle.record.proofs.CountLaws.{all-pass}
use Rattle.record.proofs.HeldNumbers.{places-within}

pub held-tested : (h : Held)
    → length h.senders ≡ most_held
    → length h.services ≡ most_held
    → length h.lengths ≡ most_held
    → length h.contents ≡ held_contents
    → ((i : ℕ) → get_or h.senders i 0 ≤ most_id)
    → (a b : Bool) → a ≡ all_within 0 most_service h.services → b ≡ all_within 0 most_content h.lengths
    → (a && b) ≡ held_in_range h
unfolding held_in_range
held-tested h e1 e2 e3 e4 p a b ea eb =
    rw (
      eq-eqb (length h.senders) most_held e1,
      eq-eqb (length h.services) most_held e2,
      eq-eqb (length h.lengths) most_held e3,
      eq-eqb (length h.contents) held_contents e4,
      all-within most_id h.senders p,
      ea,
      eb,
    )

-- a loop over the numbers that may be held
pub numbers-tested : (l : Log) (good : Bool) → good ≡ every_from (λ n. leb n most_number || not (in_use l.held (place_of n))) (suc l.safe.0) most_held → good ≡ numbers_in_range l
unfolding numbers_in_range
numbers-tested l good e = e ∙ sym (places-within l most_number)

-- one number, as the loop asks: is it too large, and its place in use?
pub place-tested : (n most x : ℕ) (bad : Bool) → (ltb most n && not (eqb x 0)) ≡ bad → (leb n most || not (not (eqb x 0))) ≡ not bad
place-tested n most x bad e = rw (← e, not-not) (by (eqb x 0))
  where
    by : (free : Bool) → (leb n most || free) ≡ not (ltb most n && not free)
    by true = rw (or-true, and-false)
    by false = elim (dec_lt most n) [
      | yes h ↦ rw (lt-ltb most n h, lt-leb n most h)
      | no h ↦ rw (le-leb n most (omega arith), le-ltb most n (omega arith))
    ]

-- 32 numbers above the safe mark: none of them is too large
pub numbers-below : (l : Log) → l.safe.0 + most_held ≤ most_number → true ≡ numbers_in_range l
numbers-below l room =
    numbers-tested l true (sym (all-pass _ (suc l.safe.0) most_held
    (λ i h. let fits : suc l.safe.0 + i ≤ most_number = omega arith in rw (le-leb (suc l.safe.0 + i) most_number fits))))

-- the safe mark is tested first
pub safe-refused : (l : Log) → leb l.safe.0 most_number ≡ false → false ≡ log_in_range l
unfolding log_in_range
safe-refused l f = simp (f, and-false)

pub log-tested : (l : Log) → length l.members ≡ most_members → leb l.safe.0 most_number ≡ true
    → (a b : Bool) → a ≡ held_in_range l.held → b ≡ numbers_in_range l
    → (leb l.count most_members && leb l.level.0 most_number && leb l.delivered.0 most_number && a && b) ≡ log_in_range l
unfolding log_in_range
log-tested l e1 e2 a b ea eb = rw (eq-eqb (length l.members) most_members e1, e2, ea, eb, and-true)

pub turn-tested : (t : Turn) → length t.token ≡ longest_token → t.stall ≤ most_stall
    → (leb t.aru.0 most_number
    && leb t.earlier.0 most_number
    && leb t.number.0 most_number
    && leb t.broadcast most_broadcasts
    && leb t.waited most_posts
    && leb t.size longest_token)
    ≡ turn_in_range t
unfolding turn_in_range
turn-tested t e h = rw (eq-eqb (length t.token) longest_token e, le-leb t.stall most_stall h, and-true)

pub posts-tested : (p : Posts) → length p.services ≡ most_posts → length p.lengths ≡ most_posts → length p.contents ≡ post_contents
    → (a b : Bool) → a ≡ all_within 0 most_service p.services → b ≡ all_within 0 most_content p.lengths
    → (leb p.count most_posts && a && b) ≡ posts_in_range p
unfolding posts_in_range
posts-tested p e1 e2 e3 a b ea eb =
    rw (eq-eqb (length p.services) most_posts e1, eq-eqb (length p.lengths) most_posts e2, eq-eqb (length p.contents) post_contents e3, ea, eb)
