-- Steps 1 to 3 as the code makes them: what each call hands to the next.
use Prim.Native.Nat.{ℕ, ◌+◌, ◌*◌, ◌-◌, ◌≤◌}
use mathlib.Core.Path.{◌≡◌, ap, ◌∙◌}
use mathlib.Core.Bool.{true, not}
use mathlib.Core.List.{List}
use native.Mathlib.Nat.{sub-zero}
use native.Mathlib.Omega.{arith}
use lib.ListN.{length, take, length-take}
use Rattle.frames.specs.Number.{most_number}
use Rattle.frames.specs.Layout.{longest_message, most_requests}
use Rattle.frames.specs.Header.{header_follows}
use Rattle.frames.specs.Token.{request_numbers}
use Rattle.record.specs.inner.Head.{log_on, head_of}
use Rattle.record.specs.Held.{holds}
use Rattle.record.specs.Posts.{waiting}
use Rattle.record.specs.declared.head.LogHead.{LogHead}
use Rattle.record.proofs.WholeFacts.{LogGood}
use Rattle.visit.specs.Level.{raised}
use Rattle.visit.specs.Output.{most_frames}
use Rattle.visit.specs.Deliver.{ring_header, joined}
use Rattle.visit.specs.Visit.{Visit, log, own, posts, requests, repeats, unanswered, new_count, with_sent, log_now, broadcasts}
use Rattle.record.specs.Count.{those}
use Rattle.visit.specs.Reads.{Each}
use Rattle.visit.specs.Acceptable.{Acceptable}
use Rattle.visit.specs.inner.Steps.{repeat_frames, sent_of}
use Rattle.visit.specs.declared.requests.Split.{Split}
use Rattle.visit.proofs.RingFacts.{ring-header}
use Rattle.visit.proofs.EachLaws.{those-pass}
use Rattle.visit.proofs.NewLaws.{new-rest}
use Rattle.visit.proofs.VisitFacts.{facts, token-good, few-repeats, few-broadcasts}

module _ (v : Visit) (a : Acceptable v) where
  pub safe-most : (log v).safe.0 ≤ most_number
  safe-most = let marks = (facts v a).log.ready.marks in omega arith

  pub asked-few : (numbers : List ℕ) → length (take (v.token.count - 0) numbers) ≤ most_requests
  asked-few numbers = omega (arith, length-take (v.token.count - 0) numbers, (token-good v a).requests.few)

  -- ---- step 2

  pub few-listed : length (repeats v) ≤ most_requests
  few-listed = omega (arith, few-repeats v, (token-good v a).requests.few)

  pub repeats-ready : (long : ℕ)
      → most_frames ≤ long
      → LogGood (log v) × (header_follows (ring_header (log v)) ≡ true) × Each (λ n. holds (log v) n ≡ true) (repeats v) × (longest_message * length (repeats v) ≤ long)
  unfolding repeats
  repeats-ready long enough = ((facts v a).log, ring-header v.rec (facts v a), those-pass (holds (log v)) (requests v), omega (arith, few-listed))

  module _ (numbers : List ℕ) (takes : numbers ≡ request_numbers v.token) (s : Split)
      (splits : s ≡ record {
        held = those (holds (log v)) (take (v.token.count - 0) numbers);
        rest = those (λ n. not (holds (log v) n)) (take (v.token.count - 0) numbers);
      }) where
    split-is : s ≡ record { held = repeats v; rest = unanswered v }
    unfolding repeats unanswered requests
    split-is = splits ∙ rw (takes, sub-zero)

    pub split-held : s.held ≡ repeats v
    split-held = ap (λ (x : Split). x.held) split-is

    split_rest : s.rest ≡ unanswered v
    split_rest = ap (λ (x : Split). x.rest) split-is

    -- ---- step 3

    module _ (n : ℕ) (counts : n ≡ new_count v) where
      pub sent-count : length s.held + n ≡ broadcasts v
      unfolding broadcasts
      sent-count = rw (split-held, counts)

      pub sent-few : length s.held + n ≤ 16
      sent-few = omega (arith, sent-count, few-broadcasts v a)

      module _ (l : LogHead) (holds-new : l ≡ head_of (with_sent (log v) (own v) v.token.highest.0 (take n (waiting (posts v))))) where
        rest-stays : (l.safe.0 ≡ (log v).safe.0) × (l.level.0 ≡ (log v).level.0)
        rest-stays =
            let rest = ap head_of (new-rest (log v) (own v) v.token.highest.0 (take n (waiting (posts v)))) in
            (ap (λ (x : LogHead). x.safe.0) (holds-new ∙ rest), ap (λ (x : LogHead). x.level.0) (holds-new ∙ rest))

        pub level-ready : (l.safe.0 ≤ most_number) × (l.level.0 ≤ most_number)
        level-ready = let marks = (facts v a).log.ready.marks in (omega (arith, rest-stays.0, safe-most), omega (arith, rest-stays.1, marks.level-most))

        module _ (l' : LogHead) (raises : (contents : List ℕ) → log_on l' contents ≡ raised (log_on l contents)) where
          now-is : l' ≡ head_of (log_now v)
          unfolding log_now
          now-is =
              let held = with_sent (log v) (own v) v.token.highest.0 (take n (waiting (posts v))) in
              ap head_of (raises held.held.contents) ∙ rw (holds-new, counts)

          pub all-sent : (size : ℕ)
              → size ≡ length (joined (repeat_frames v))
              → record { log = l'; rest = s.rest; added = n; count = length s.held + n; size = size } ≡ sent_of v
          unfolding sent_of
          all-sent size e = rw (e, split_rest, sent-count, now-is, counts)
