-- A message that has just been kept: it is held as it came, and a delivery may begin with it.
use Prim.Native.Nat.{ℕ, zero, suc, ◌+◌, ◌-◌, ◌<◌, ◌≤◌}
use mathlib.Core.Path.{◌≡◌, refl, ap, ◌∙◌}
use mathlib.Core.List.{List, ◌∷◌, ◌++◌, flatten}
use native.Mathlib.Omega.{arith}
use lib.ListN.{length}
use lib.Seq.{sets}
use Rattle.frames.specs.Layout.{longest_message}
use Rattle.frames.specs.Message.{message_bytes}
use Rattle.frames.specs.declared.message.Message.{Message}
use Rattle.frames.proofs.Facts.{message-facts}
use Rattle.frames.proofs.Sizes.{message-length}
use Rattle.record.specs.Held.{place_of, stored}
use Rattle.record.specs.declared.log.Log.{Log}
use Rattle.record.specs.declared.Record.{Record}
use Rattle.record.proofs.HeldLaws.{held-sizes, entry-same}
use Rattle.record.proofs.WholeFacts.{whole-good}
use Rattle.visit.specs.Level.{raised}
use Rattle.visit.specs.Deliver.{frame_with, frame_of}
use Rattle.visit.specs.Message.{entry_in}
use Rattle.record.specs.Count.{numbers_after}
use Rattle.visit.specs.Acceptable.{Hearable}
use Rattle.visit.specs.inner.Steps.{frames_of, JustKept}
use Rattle.visit.proofs.RingFacts.{header-here}
use Rattle.visit.proofs.SentLaws.{put_then}

pub just-kept : (r : Record) (m : Message) (content : List ℕ) → Hearable r m content → JustKept (raised (stored r.log m.number.0 (entry_in m content))) m content
unfolding raised
just-kept r m content h =
    let log = (whole-good r h.whole_record).log in
    record {
      header = header-here r.log m.header h.of_this_ring;
      entry = entry-same r.log.held (place_of m.number.0) (entry_in m content) (held-sizes r.log.held log.ready.stock.held.range) (omega arith) (message-facts m content h.follows).short;
      follows = h.follows;
    }

-- no number, and nothing is put
pub none-put : (l : Log) (last n : ℕ) (out : List ℕ) → n ≡ 0 → (0 ≡ length (frames_of l (numbers_after last n))) × (out ≡ sets out 0 (frames_of l (numbers_after last n)))
unfolding numbers_after flatten
none-put l last n out e = rw e (refl, refl)

after-begins : (last n : ℕ) → 0 < n → numbers_after last n ≡ suc last ∷ numbers_after (suc last) (n - 1)
unfolding numbers_after
after-begins last zero h = absurd (omega arith)
after-begins last (suc n) h = let less : suc n - 1 ≡ n = omega arith in rw less

module _ (l : Log) (m : Message) (content : List ℕ) (kept : JustKept l m content) where
  kept_frame : frame_of l m.number.0 ≡ message_bytes m content
  unfolding frame_with
  kept_frame = ap (frame_with l m.number.0) kept.entry ∙ rw kept.header

  pub kept-short : length (message_bytes m content) ≤ longest_message
  kept-short = omega (arith, message-length m content, (message-facts m content kept.follows).short)

  -- ---- its frame is put first, then those after it

  module _ (last n : ℕ) (some : 0 < n) (first : m.number.0 ≡ last + 1) where
    begins : numbers_after last n ≡ m.number.0 ∷ numbers_after m.number.0 (n - 1)
    begins = let next : m.number.0 ≡ suc last = omega arith in rw next (after-begins last n some)

    frames-begin : frames_of l (numbers_after last n) ≡ message_bytes m content ++ frames_of l (numbers_after m.number.0 (n - 1))
    unfolding flatten
    frames-begin = rw (begins, kept_frame)

    pub kept_put : (at size : ℕ) (out out₁ out₂ : List ℕ)
        → (at ≡ 0 + length (message_bytes m content)) × (out₁ ≡ sets out 0 (message_bytes m content))
        → (size ≡ at + length (frames_of l (numbers_after m.number.0 (n - 1))))
        × (out₂ ≡ sets out₁ at (frames_of l (numbers_after m.number.0 (n - 1))))
        → (size ≡ length (frames_of l (numbers_after last n))) × (out₂ ≡ sets out 0 (frames_of l (numbers_after last n)))
    kept_put at size out out₁ out₂ first second =
        rw frames-begin (put_then (message_bytes m content) (frames_of l (numbers_after m.number.0 (n - 1))) out out₁ out₂ at size first second)
