-- The frames of held messages read as what is held; what is handed out is held.
use Prim.Native.Nat.{ℕ, suc, ◌+◌, ◌*◌, ◌-◌, ◌≤◌}
use mathlib.Core.Path.{◌≡◌, refl, sym, ap, ◌∙◌}
use mathlib.Core.Bool.{true}
use mathlib.Core.List.{List, [], ◌∷◌, ◌++◌, map, flatten, append_assoc}
use borrow.Author.Tests.{le-leb}
use native.Mathlib.Omega.{arith}
use lib.ListN.{length, length-append, length-map}
use Rattle.frames.specs.Number.{most_number, most_id, is_number, is_id}
use Rattle.frames.specs.Layout.{most_service, most_content, longest_message}
use Rattle.frames.specs.Header.{header_follows}
use Rattle.frames.specs.Message.{message_follows}
use Rattle.frames.specs.declared.message.Message.{Message}
use Rattle.frames.proofs.Restored.{message-restored}
use Rattle.frames.proofs.Rewritten.{Exact, message-read}
use Rattle.frames.proofs.Sizes.{message-length}
use Rattle.record.specs.Held.{holds}
use Rattle.record.specs.Members.{is_member}
use Rattle.record.specs.Ring.{current, ids}
use Rattle.record.specs.Whole.{whole}
use Rattle.record.specs.declared.log.Log.{Log}
use Rattle.record.specs.declared.Record.{Record}
use Rattle.record.proofs.HeldWhole.{EntryGood}
use Rattle.record.proofs.LogWhole.{holding, entry-good}
use Rattle.record.proofs.WholeFacts.{LogGood, whole-good}
use Rattle.visit.specs.Output.{most_deliveries}
use Rattle.visit.specs.Deliver.{ring_header, message_with, frame_with, entry_of, frame_of, joined, due, handed_out}
use Rattle.visit.specs.Message.{log_with_message}
use Rattle.visit.specs.Reads.{Each, HeldReads, HandedReads, HeardReads}
use Rattle.visit.proofs.EachLaws.{Between, each_map, each-mapped}
use Rattle.visit.proofs.WithinLaws.{frames-within}
use Rattle.visit.proofs.RingFacts.{ring-header}
use Rattle.visit.proofs.DueLaws.{due_from, due-is, due-between, due-most}
use Rattle.visit.proofs.LogSteps.{level-window}
use Rattle.visit.proofs.MessageWhole.{heard-onward}

-- a log whose messages can all be written
pub record Writable (l : Log) : Type 0 where
  pub log : LogGood l
  pub header : header_follows (ring_header l) ≡ true

-- ---- a held message's frame

module _ (l : Log) (g : Writable l) (n : ℕ) (h : holds l n ≡ true) where
  entry : EntryGood (ids l) (entry_of l n)
  entry = entry-good l n g.log.ready.stock h

  sender-good : is_id (entry_of l n).sender ≡ true
  sender-good = rw (le-leb 1 (entry_of l n).sender (omega (arith, entry.named)), le-leb (entry_of l n).sender most_id entry.sender)

  number-good : is_number n ≡ true
  number-good = rw (le-leb 1 n (omega (arith, (holding l n h).low)), le-leb n most_number (g.log.ready.stock.numbers n h))

  pub held-follows : message_follows (message_with l n (entry_of l n)) (entry_of l n).content ≡ true
  unfolding message_follows
  held-follows =
      rw (
        g.header,
        sender-good,
        number-good,
        le-leb (entry_of l n).service most_service entry.service,
        le-leb (length (entry_of l n).content) most_content entry.short,
      )

  pub held_reads : HeldReads l n
  unfolding frame_with
  held_reads =
      let restored = message-restored (message_with l n (entry_of l n)) (entry_of l n).content held-follows in
      (h, restored.0, restored.1)

  pub frame-short : length (frame_of l n) ≤ longest_message
  unfolding frame_with
  frame-short = omega (arith, message-length (message_with l n (entry_of l n)) (entry_of l n).content, entry.short)

-- ---- frames one after another

joined-short : (most : ℕ) (frames : List (List ℕ)) → Each (λ frame. length frame ≤ most) frames → length (joined frames) ≤ most * length frames
unfolding flatten
joined-short most [] all = omega arith
joined-short most (f ∷ frames) all = omega (arith, length-append f (joined frames), all.0, joined-short most frames all.1)

pub joined-join : (xs ys : List (List ℕ)) → joined (xs ++ ys) ≡ joined xs ++ joined ys
unfolding flatten
joined-join [] ys = refl
joined-join (x ∷ xs) ys = ap (λ rest. x ++ rest) (joined-join xs ys) ∙ sym (append_assoc x (joined xs) (joined ys))

pub reads-exact : (l : Log) (ns : List ℕ) → Each (HeldReads l) ns → Each Exact (map (frame_of l) ns)
reads-exact l [] reads = tt
reads-exact l (n ∷ ns) reads = ((message-read (frame_of l n) (message_with l n (entry_of l n)) reads.0.1).exact, reads-exact l ns reads.1)

-- ---- the frames of numbers that are held

module _ (l : Log) (g : Writable l) (ns : List ℕ) (held : Each (λ n. holds l n ≡ true) ns) where
  pub numbers-read : Each (HeldReads l) ns
  numbers-read = each_map (λ n. holds l n ≡ true) (HeldReads l) ns (held_reads l g) held

  pub frames-short : length (joined (map (frame_of l) ns)) ≤ longest_message * length ns
  frames-short =
      let short = joined-short longest_message (map (frame_of l) ns) (each-mapped (λ frame. length frame ≤ longest_message) (frame_of l) ns (each_map (λ n. holds l n ≡ true) (λ n. length (frame_of l n) ≤ longest_message) ns (frame-short l g) held)) in
      omega (arith, short, length-map ns (frame_of l))

-- ---- what is due

module _ (l : Log) (g : Writable l) (safe : ℕ) where
  due-held : Each (λ n. holds l n ≡ true) (due l safe)
  due-held =
      let mark = l.delivered.0 in
      let left = l.level.0 - mark in
      let marks = g.log.ready.marks in
      rw (due-is l safe)
      (each_map (Between mark (mark + left)) (λ n. holds l n ≡ true) (due_from l safe (suc mark) left)
      (λ n b. marks.to_level n (omega (arith, marks.safe_first, b.above)) (omega (arith, b.above, b.upto)))
      (due-between l safe mark left))

  due-reads : Each (HeldReads l) (due l safe)
  due-reads = numbers-read l g (due l safe) due-held

  pub handed-reads : HandedReads l safe (handed_out l safe)
  handed-reads = record { handed = due-reads; within = frames-within (map (frame_of l) (due l safe)) (reads-exact l (due l safe) due-reads) }

  pub handed-fits : length (handed_out l safe) ≤ most_deliveries
  handed-fits =
      let marks = g.log.ready.marks in
      omega (arith, frames-short l g (due l safe) due-held, due-most l safe, level-window l marks, marks.safe_first)

-- ---- a message arrives

module _ (r : Record) (m : Message) (content : List ℕ) (w : whole r ≡ true) (follows : message_follows m content ≡ true) (member : is_member (ids (current r)) m.sender ≡ true) where
  pub heard-writable : Writable (log_with_message (current r) m content)
  heard-writable =
      let g = whole-good r w in
      let on = heard-onward (current r) m content g.log follows member in
      record { log = on.good; header = ap (λ (k : Log). header_follows (ring_header k)) on.rest ∙ ring-header r g }

pub heard-reads : HeardReads
heard-reads r m content h =
    let l = log_with_message (current r) m content in
    handed-reads l (heard-writable r m content h.whole_record h.follows h.member) l.safe.0
