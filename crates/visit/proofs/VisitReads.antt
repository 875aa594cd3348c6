-- Every frame that a visit writes or hands out reads, and question 1's sizes always suffice.
use Prim.Native.Nat.{◌+◌, ◌*◌, ◌≤◌}
use mathlib.Core.Path.{◌≡◌, refl, ap, ◌∙◌}
use mathlib.Core.Bool.{true}
use mathlib.Core.List.{[], ◌∷◌, ◌++◌, map, flatten, append-nil}
use native.Mathlib.Omega.{arith}
use lib.ListN.{length, length-append}
use Rattle.frames.specs.Layout.{longest_message}
use Rattle.frames.specs.Token.{token_bytes}
use Rattle.frames.proofs.Rewritten.{Exact, token-read}
use Rattle.record.specs.Held.{holds}
use Rattle.record.specs.Size.{most_broadcasts}
use Rattle.record.specs.Ring.{ids}
use Rattle.visit.specs.Output.{most_frames, most_deliveries}
use Rattle.visit.specs.Deliver.{frame_of, joined}
use Rattle.visit.specs.Visit.{Visit, log, own, next_member, requests, repeats, new_count, new_numbers, highest', log_now, safe', broadcasts, token', written, handed}
use Rattle.record.specs.Count.{numbers_after}
use Rattle.visit.specs.Within.{frames_in}
use Rattle.visit.specs.Reads.{Each, HeldReads, VisitReads, AcceptedReads}
use Rattle.visit.specs.Acceptable.{Acceptable}
use Rattle.visit.specs.inner.Steps.{sent_frames}
use Rattle.visit.proofs.EachLaws.{Between, each_map, each_append, those-pass, after-between, after-length}
use Rattle.visit.proofs.RingFacts.{ring-header}
use Rattle.visit.proofs.VisitFacts.{facts, few-broadcasts, now-new, now-good, now-ring}
use Rattle.visit.proofs.FrameLaws.{Writable, numbers-read, reads-exact, frames-short, joined-join, handed-reads, handed-fits}
use Rattle.visit.proofs.WithinLaws.{frames-within}
use Rattle.visit.proofs.TokenLaws.{token-reads, token-passes, token-short}

-- ---- a visit

module _ (v : Visit) (a : Acceptable v) where
  before-writable : Writable (log v)
  before-writable = record { log = (facts v a).log; header = ring-header v.rec (facts v a) }

  now-writable : Writable (log_now v)
  now-writable = record { log = now-good v a; header = rw (now-ring v a) (ring-header v.rec (facts v a)) }

  repeats-held : Each (λ n. holds (log v) n ≡ true) (repeats v)
  unfolding repeats
  repeats-held = those-pass (holds (log v)) (requests v)

  new-held : Each (λ n. holds (log_now v) n ≡ true) (new_numbers v)
  unfolding new_numbers highest'
  new-held =
      let top = v.token.highest.0 in
      each_map (Between top (top + new_count v)) (λ n. holds (log_now v) n ≡ true) (numbers_after top (new_count v)) (λ n b. now-new v a n b.above b.upto) (after-between top (new_count v))

  repeats-read : Each (HeldReads (log v)) (repeats v)
  repeats-read = numbers-read (log v) before-writable (repeats v) repeats-held

  new-read : Each (HeldReads (log_now v)) (new_numbers v)
  new-read = numbers-read (log_now v) now-writable (new_numbers v) new-held

  written-exact : Each Exact (written v)
  unfolding written
  written-exact =
      let old = map (frame_of (log v)) (repeats v) in
      let new = map (frame_of (log_now v)) (new_numbers v) in
      each_append Exact (old ++ new) (token_bytes (token' v) ∷ [])
      (each_append Exact old new (reads-exact (log v) (repeats v) repeats-read) (reads-exact (log_now v) (new_numbers v) new-read))
      ((token-read (token_bytes (token' v)) (token' v) (token-reads v a)).exact, tt)

  frames-found : frames_in (joined (written v)) ≡ written v
  frames-found = frames-within (written v) written-exact

  addressed : (token' v).addressee ≡ next_member (ids (log v)) (own v)
  unfolding token'
  addressed = refl

  pub visit-reads : VisitReads v
  visit-reads =
      record {
        delivered = handed-reads (log_now v) now-writable (safe' v);
        repeated = repeats-read;
        sent = new-read;
        forwarded = token-reads v a;
        passes = token-passes v a;
        next = addressed;
        within = frames-found;
      }

  -- ---- how many bytes

  numbers-length : length (new_numbers v) ≡ new_count v
  unfolding new_numbers
  numbers-length = after-length v.token.highest.0 (new_count v)

  -- the repeats leave room for the new messages
  pub repeats-short : length (joined (map (frame_of (log v)) (repeats v))) + longest_message * new_count v ≤ most_broadcasts * longest_message
  unfolding broadcasts
  repeats-short = omega (arith, frames-short (log v) before-writable (repeats v) repeats-held, few-broadcasts v a)

  -- repeats and new messages
  pub sent-short : length (joined (sent_frames v)) ≤ most_broadcasts * longest_message
  unfolding broadcasts
  sent-short =
      let old = map (frame_of (log v)) (repeats v) in
      let new = map (frame_of (log_now v)) (new_numbers v) in
      omega (
        arith,
        ap length (joined-join old new),
        length-append (joined old) (joined new),
        frames-short (log v) before-writable (repeats v) repeats-held,
        frames-short (log_now v) now-writable (new_numbers v) new-held,
        numbers-length,
        few-broadcasts v a,
      )

  -- the token behind them
  pub written_is : joined (written v) ≡ joined (sent_frames v) ++ token_bytes (token' v)
  unfolding written flatten
  written_is = joined-join (sent_frames v) (token_bytes (token' v) ∷ []) ∙ rw append-nil

  pub written-fits : length (joined (written v)) ≤ most_frames
  written-fits = omega (arith, ap length written_is, length-append (joined (sent_frames v)) (token_bytes (token' v)), sent-short, token-short v a)

  pub accepted-fits : (length (joined (written v)) ≤ most_frames) × (length (handed v) ≤ most_deliveries)
  accepted-fits = (written-fits, handed-fits (log_now v) now-writable (safe' v))

pub accepted-reads : AcceptedReads
accepted-reads = visit-reads
