-- The level's loop, and a message that is heard, outcome by outcome.
use Prim.Native.Nat.{ℕ, zero, suc, ◌+◌, ◌-◌, ◌<◌, ◌≤◌}
use mathlib.Core.Path.{◌≡◌, sym, ap, ◌∙◌}
use mathlib.Core.Bool.{Bool, true, false, not, ◌&&◌, cond}
use mathlib.Core.List.{List}
use native.Mathlib.Numerals.{add-one}
use native.Mathlib.Omega.{arith}
use lib.ListN.{length, get_or}
use lib.Dec.{ltb, leb, eqb}
use Rattle.frames.specs.Number.{most_number}
use Rattle.frames.specs.Layout.{most_content}
use Rattle.frames.specs.declared.message.Message.{Message}
use Rattle.frames.specs.declared.number.MessageNumber.{MessageNumber}
use Rattle.frames.proofs.Facts.{message-facts}
use Rattle.record.specs.Size.{most_held}
use Rattle.record.specs.Bytes.{record_bytes}
use Rattle.record.specs.inner.Head.{log_on, record_in, contents_in}
use Rattle.record.specs.Parts.{with_parts}
use Rattle.record.specs.Held.{place_of, holds, log_with, stored}
use Rattle.record.specs.Layout.{log_at}
use Rattle.record.specs.declared.head.LogHead.{LogHead}
use Rattle.record.specs.declared.head.Head.{Head}
use Rattle.record.specs.declared.head.LogHead.{LogHead}
use Rattle.record.specs.declared.head.Head.{Head}
use Rattle.record.specs.declared.log.Log.{Log}
use Rattle.record.specs.declared.Record.{Record}
use Rattle.record.proofs.WholeFacts.{whole-good}
use Rattle.visit.specs.Output.{followed_by, most_deliveries}
use Rattle.visit.specs.Level.{reached, level_of, raised}
use Rattle.visit.specs.Deliver.{due, handed_out, delivered}
use Rattle.visit.specs.Message.{is_had, is_ahead, heard_as, entry_in, resend_ended, log_with_message, rec_heard, handed_heard, heard_of}
use Rattle.visit.specs.Acceptable.{Hearable}
use Rattle.visit.specs.inner.Steps.{head_delivered, head_heard}
use Rattle.visit.specs.declared.hearing.Heard.{Heard}
use Rattle.visit.specs.declared.hearing.Hearing.{Hearing}
use Rattle.visit.specs.declared.hearing.Hearing.TheVariants.{WasHad, IsAhead, IsKept}
use Rattle.visit.specs.declared.delivering.Handed.{Handed}
use Rattle.visit.proofs.RingFacts.{ring-header}
use Rattle.visit.proofs.FrameLaws.{Writable, heard-writable, handed-fits}
use Rattle.visit.proofs.DueCount.{due-fits}

-- ---- the level rises, by `most` more at most

-- from here it rises as far as from the first
abbrev pub Rising : (ℕ → Bool) → ℕ → ℕ → Type 0
Rising has first level = reached has (first + most_held - level) level ≡ reached has most_held first

reached-more : (has : ℕ → Bool) (most level : ℕ) → 0 < most → reached has most level ≡ cond (has (level + 1)) (reached has (most - 1) (level + 1)) level
unfolding reached
reached-more has zero level h = absurd (omega arith)
reached-more has (suc most) level h =
    let less : suc most - 1 ≡ most = omega arith in
    rw (less, add-one level)

module _ (has : ℕ → Bool) (first level : ℕ) (so_far : Rising has first level) where
  more : level < first + most_held → reached has most_held first ≡ cond (has (level + 1)) (reached has (first + most_held - (level + 1)) (level + 1)) level
  more h =
      let less : first + most_held - level - 1 ≡ first + most_held - (level + 1) = omega arith in
      sym so_far ∙ (rw less at (reached-more has (first + most_held - level) level (omega arith)))

  pub rise-stops : level < first + most_held → has (level + 1) ≡ false → level ≡ reached has most_held first
  rise-stops h f = rw (more h, f)

  pub rise-goes : level < first + most_held → has (level + 1) ≡ true → Rising has first (level + 1)
  rise-goes h f = rw (more h, f)

  pub rise-ends : level ≡ first + most_held → first + most_held ≡ reached has most_held first
  unfolding reached
  rise-ends e =
      let none : first + most_held - level ≡ 0 = omega arith in
      sym e ∙ (rw none at so_far)

-- the level by the safe mark and the senders alone
pub raised-as : (l : Log) (n : MessageNumber)
    → n.0 ≡ reached (λ k. ltb l.safe.0 k && leb k (l.safe.0 + most_held) && not (eqb (get_or l.held.senders (place_of k) 0) 0)) most_held l.level.0
    → log_with l n l.safe l.delivered l.held ≡ raised l
unfolding raised level_of holds
raised-as l n e = rw (← e)

-- ---- what a message may be heard on

module _ (r : Record) (m : Message) (content : List ℕ) (h : Hearable r m content) where
  pub marks-most : (r.log.safe.0 ≤ most_number) × (r.log.level.0 ≤ most_number)
  marks-most =
      let marks = (whole-good r h.whole_record).log.ready.marks in
      (omega arith, omega arith)

  pub content-short : length content ≤ most_content
  content-short = (message-facts m content h.follows).short

  pub own_writable : Writable r.log
  own_writable =
      let g = whole-good r h.whole_record in
      record { log = g.log; header = ring-header r g }

  pub kept-writable : (kept : Log) → is_had r.log m.number.0 ≡ false → is_ahead r.log m.number.0 ≡ false → kept ≡ raised (stored r.log m.number.0 (entry_in m content)) → Writable kept
  unfolding log_with_message
  kept-writable kept had ahead e =
      let there = heard-writable r m content h.whole_record h.follows h.member in
      rw e (rw (had, ahead) at there)

-- ---- what is delivered, where it is stored

-- what was handed out of the log that this head makes up over these contents, and the head that is left
abbrev HandedOf : LogHead → List ℕ → Handed → List ℕ → List ℕ → Type 0
HandedOf l contents handed out out' =
    (handed.count ≡ length (due (log_on l contents) l.safe.0))
    × (handed.size ≡ length (handed_out (log_on l contents) l.safe.0))
    × (out' ≡ followed_by (handed_out (log_on l contents) l.safe.0) out)

pub handed-short : (l : LogHead) (contents out out' : List ℕ) (handed : Handed) → HandedOf l contents handed out out' → Writable (log_on l contents) → handed.size ≤ most_deliveries
handed-short l contents out out' handed hands w = omega (arith, hands.1, handed-fits (log_on l contents) w l.safe.0)

pub handed-most : (l : LogHead) (contents out out' : List ℕ) (handed : Handed) → HandedOf l contents handed out out' → Writable (log_on l contents) → l.delivered.0 + handed.count ≤ most_number
handed-most l contents out out' handed hands w = (due-fits (log_on l contents) l.safe.0 handed.count hands.0 w.log).most

-- the record whose log has delivered, and the leave has ended
pub record Result : Type 0 where
  pub heard : Heard
  pub rec : Record
  pub out : List ℕ

abbrev heard_on : Record → Log → Hearing → Result
heard_on r l how =
    record {
      heard = record { how = how; size = length (handed_out l l.safe.0) };
      rec = with_parts r (delivered l l.safe.0) (resend_ended r.turn) r.posts;
      out = handed_out l l.safe.0;
    }

abbrev result_of : Record → Message → List ℕ → Result
result_of r m content = record { heard = heard_of r m content; rec = rec_heard r m content; out = handed_heard r m content }

-- the answer, the record's bytes and the bytes delivered are these
abbrev Leaves : Result → Heard → List ℕ → List ℕ → List ℕ → Type 0
Leaves result heard s' out out' = (heard ≡ result.heard) × (s' ≡ record_bytes result.rec) × (out' ≡ followed_by result.out out)

module _ (h : Head) (s contents : List ℕ) (reads : contents ≡ contents_in s log_at) (l : LogHead) (how : Hearing) (handed : Handed) (heard : Heard) (s' out out' : List ℕ)
    (hands : HandedOf l contents handed out out')
    (puts : (heard ≡ record { how = how; size = handed.size }) × (s' ≡ record_bytes (record_in (head_heard h (head_delivered l handed.count)) s))) where
  there : HandedOf l (contents_in s log_at) handed out out'
  there = rw reads at hands

  after : log_on (head_delivered l handed.count) (contents_in s log_at) ≡ delivered (log_on l (contents_in s log_at)) l.safe.0
  unfolding delivered
  after = rw there.0

  pub leaves-heard : (result : Result) → result ≡ heard_on (record_in h s) (log_on l (contents_in s log_at)) how → Leaves result heard s' out out'
  leaves-heard result e =
      let rest : Log → Record = λ (x : Log). with_parts (record_in h s) x (resend_ended h.turn) (record_in h s).posts in
      rw e (puts.0 ∙ ap (λ n. record { how = how; size = n }) there.1, puts.1 ∙ ap (λ (x : Log). record_bytes (rest x)) after, there.2)

-- ---- had, or ahead, or kept

-- one of three by two tests, and which
not-last : {A : Type 0} (had ahead : Bool) (l kept : A) → (cond had WasHad (cond ahead IsAhead IsKept) ≡ IsKept → ⊥) → cond had l (cond ahead l kept) ≡ l
not-last true ahead l kept other = λ i. l
not-last false true l kept other = λ i. l
not-last false false l kept other = absurd (other (λ i. IsKept))

the-last : (had ahead : Bool) → cond had WasHad (cond ahead IsAhead IsKept) ≡ IsKept → (had ≡ false) × (ahead ≡ false)
the-last true ahead e = cc
the-last false true e = cc
the-last false false e = ((λ i. false), (λ i. false))

module _ (r : Record) (m : Message) (content : List ℕ) (how : Hearing) (is : how ≡ heard_as r.log m.number.0 WasHad IsAhead IsKept) where
  pub is-heard : (how ≡ IsKept → ⊥) → result_of r m content ≡ heard_on r r.log how
  unfolding log_with_message
  is-heard other = rw (is, not-last (is_had r.log m.number.0) (is_ahead r.log m.number.0) r.log (raised (stored r.log m.number.0 (entry_in m content))) (rw is at other))

  pub not-had : how ≡ IsKept → (is_had r.log m.number.0 ≡ false) × (is_ahead r.log m.number.0 ≡ false)
  not-had e = the-last (is_had r.log m.number.0) (is_ahead r.log m.number.0) (sym is ∙ e)

  -- it was kept where the record is lent: the posts are as they were
  pub is-heard-kept : how ≡ IsKept → (r' : Record) (kept : Log) → (r'.own ≡ r.own) × (r'.turn ≡ r.turn) × (r'.posts ≡ r.posts)
      → kept ≡ raised (stored r.log m.number.0 (entry_in m content))
      → result_of r m content ≡ heard_on r' kept how
  unfolding log_with_message
  is-heard-kept e r' kept same k = rw (is, (not-had e).0, (not-had e).1, same.0, same.1, same.2, k)
