-- Frames put into a buffer, one after another.
use Prim.Native.Nat.{ℕ, suc, ◌+◌, ◌*◌, ◌-◌, ◌<◌, ◌≤◌}
use mathlib.Core.Path.{◌≡◌, refl, sym, ◌∙◌}
use mathlib.Core.Bool.{Bool, true}
use mathlib.Core.List.{List, [], ◌∷◌, ◌++◌, flatten, append-nil, append_assoc}
use borrow.Author.Tests.{le-leb}
use native.Mathlib.Nat.{add-zero, sub-zero}
use native.Mathlib.Numerals.{add-one}
use native.Mathlib.Omega.{arith}
use lib.ListN.{length, get_or, take, drop, length-append, length-drop, drop_of_length-le}
use lib.Dec.{leb}
use lib.Seq.{take_all, drop-cons, drop-drop, sets, sets-eq, length-sets}
use Rattle.words.proofs.StoreLaws.{sets-append}
use Rattle.frames.specs.Layout.{most_content, longest_message}
use Rattle.frames.specs.Write.{writing_of}
use Rattle.record.specs.Held.{place_of, holds}
use Rattle.record.specs.declared.log.Log.{Log}
use Rattle.visit.specs.Output.{followed_by}
use Rattle.visit.specs.Deliver.{entry_of, frame_of}
use Rattle.record.specs.Count.{numbers_after}
use Rattle.visit.specs.Reads.{Each}
use Rattle.visit.specs.inner.Steps.{frames_of}
use Rattle.visit.proofs.EachLaws.{Between, each_map, after-between, after-length}
use Rattle.visit.proofs.FrameLaws.{Writable, frame-short}

-- ---- bytes put into the rest of a buffer, from `at` on

pub rest-long : (out : List ℕ) (at : ℕ) → length (take (length out - at) (drop at out)) ≡ length out - at
rest-long out at = rw (take_all (length out - at) (drop at out) (omega (arith, length-drop at out))) (length-drop at out)

module _ (bytes out rest' : List ℕ) (at : ℕ) (room : at + length bytes ≤ length out) where
  left : length (drop at out) ≡ length out - at
  left = length-drop at out

  all : take (length out - at) (drop at out) ≡ drop at out
  all = take_all (length out - at) (drop at out) (omega (arith, left))

  pub part-put : rest' ≡ followed_by bytes (take (length out - at) (drop at out)) → take at out ++ (rest' ++ drop (length out - at) (drop at out)) ≡ sets out at bytes
  part-put e =
      let none : drop (length out - at) (drop at out) ≡ [] = drop_of_length-le (drop at out) {i = length out - at} (omega (arith, left)) in
      let is : rest' ≡ bytes ++ drop (length bytes) (drop at out) = rw all at e in
      rw (none, is, append-nil, drop-drop, sets-eq bytes out at room, append_assoc)

  -- a frame, by the writer
  pub frame-put : (follows : Bool) → follows ≡ true → rest' ≡ (writing_of follows bytes (take (length out - at) (drop at out))).out → take at out ++ (rest' ++ drop (length out - at) (drop at out)) ≡ sets out at bytes
  unfolding writing_of
  frame-put follows taken w =
      let part = take (length out - at) (drop at out) in
      let fits : leb (length bytes) (length part) ≡ true = le-leb (length bytes) (length part) (rw all (omega (arith, left))) in
      part-put (rw (taken, fits) at w)

-- ---- a held message, as the code spells it

module _ (l : Log) (w : Writable l) (n : ℕ) (held : holds l n ≡ true) where
  abbrev start : ℕ
  start = most_content * place_of n

  abbrev size : ℕ
  size = get_or l.held.lengths (place_of n) 0

  pub held-content : take (start + size - start) (drop start l.held.contents) ≡ (entry_of l n).content
  held-content = let e : start + size - start ≡ size = omega arith in rw e

-- ---- frames one after another

-- what is still to be put, from here, gives what the whole gives
pub record Putting (l : Log) (numbers out₀ : List ℕ) (at₀ : ℕ) (left out : List ℕ) (at : ℕ) : Type 0 where
  pub ready : Each (λ n. holds l n ≡ true) left
  pub long : length out ≡ length out₀
  pub room : at + longest_message * length left ≤ length out
  pub size : at + length (frames_of l left) ≡ at₀ + length (frames_of l numbers)
  pub is : sets out at (frames_of l left) ≡ sets out₀ at₀ (frames_of l numbers)

module _ (l : Log) (numbers out : List ℕ) (at : ℕ) where
  pub putting-starts : Each (λ n. holds l n ≡ true) numbers → at + longest_message * length numbers ≤ length out → Putting l numbers out at numbers out at
  putting-starts ready room = record { ready = ready; long = refl; room = room; size = refl; is = refl }

module _ {l : Log} {numbers out₀ : List ℕ} {at₀ : ℕ} {left out : List ℕ} {at : ℕ} (p : Putting l numbers out₀ at₀ left out at) where
  pub putting-next : (n : ℕ) (rest : List ℕ) → left ≡ n ∷ rest → (holds l n ≡ true) × (at + longest_message ≤ length out)
  putting-next n rest e =
      let ready : Each (λ n. holds l n ≡ true) (n ∷ rest) = rw e at p.ready in
      let room : at + longest_message * length (n ∷ rest) ≤ length out = rw e at p.room in
      (ready.0, omega arith)

  pub putting-goes : Writable l
      → (n : ℕ) (rest out' : List ℕ) (at' : ℕ)
      → left ≡ n ∷ rest
      → (at' ≡ at + length (frame_of l n)) × (out' ≡ sets out at (frame_of l n))
      → Putting l numbers out₀ at₀ rest out' at'
  unfolding flatten
  putting-goes w n rest out' at' e put =
      let frame = frame_of l n in
      let ready : Each (λ n. holds l n ≡ true) (n ∷ rest) = rw e at p.ready in
      let room : at + longest_message * length (n ∷ rest) ≤ length out = rw e at p.room in
      let long : length out' ≡ length out = rw put.1 (length-sets out at frame) in
      let size : at + length (frame ++ frames_of l rest) ≡ at₀ + length (frames_of l numbers) = rw e at p.size in
      let is : sets out at (frame ++ frames_of l rest) ≡ sets out₀ at₀ (frames_of l numbers) = rw e at p.is in
      record {
        ready = ready.1;
        long = long ∙ p.long;
        room = omega (arith, put.0, frame-short l w n ready.0);
        size = omega (arith, put.0, length-append frame (frames_of l rest));
        is = rw (put.1, put.0) (sym (sets-append frame (frames_of l rest) out at) ∙ is);
      }

  pub putting-ends : left ≡ [] → (at ≡ at₀ + length (frames_of l numbers)) × (out ≡ sets out₀ at₀ (frames_of l numbers))
  unfolding flatten
  putting-ends e =
      let size : at + 0 ≡ at₀ + length (frames_of l numbers) = rw e at p.size in
      (omega arith, rw e at p.is)

-- ---- the numbers of a list, from the i-th on

pub from_next : (numbers : List ℕ) (i : ℕ) → i < length numbers → drop i numbers ≡ get_or numbers i 0 ∷ drop (i + 1) numbers
from_next numbers i h = rw (add-one i) (drop-cons numbers i 0 h)

-- ---- the n numbers after one, the first i of them past

abbrev pub run_from : ℕ → ℕ → ℕ → List ℕ
run_from last n i = numbers_after (last + i) (n - i)

pub run-next : (last n i : ℕ) → i < n → run_from last n i ≡ (last + i + 1) ∷ run_from last n (i + 1)
unfolding numbers_after
run-next last n i h =
    let left : n - i ≡ suc (n - (i + 1)) = omega arith in
    let here : last + i + 1 ≡ suc (last + i) = omega arith in
    let next : last + (i + 1) ≡ suc (last + i) = omega arith in
    rw (left, here, next)

pub run_ends : (last n i : ℕ) → n ≤ i → run_from last n i ≡ []
unfolding numbers_after
run_ends last n i h = let none : n - i ≡ 0 = omega arith in rw none

module _ (l : Log) (last n : ℕ) (out : List ℕ) (at : ℕ) where
  pub run-starts : ((k : ℕ) → last < k → k ≤ last + n → holds l k ≡ true)
      → at + longest_message * n ≤ length out
      → Putting l (numbers_after last n) out at (run_from last n 0) out at
  run-starts held room =
      let ready = each_map (Between last (last + n)) (λ k. holds l k ≡ true) (numbers_after last n) (λ k b. held k b.above b.upto) (after-between last n) in
      rw (add-zero, sub-zero) (putting-starts l (numbers_after last n) out at ready (omega (arith, after-length last n)))
