-- The visit whole, as the code makes it: what is sent behind the repeats, and step 9.
use Prim.Native.Nat.{ℕ, ◌+◌, ◌*◌, ◌<◌, ◌≤◌}
use mathlib.Core.Path.{◌≡◌, refl, sym, ap, subst, ◌∙◌}
use mathlib.Core.Bool.{true}
use mathlib.Core.List.{List, ◌++◌, map, append_assoc}
use native.Mathlib.Nat.{zero-add}
use native.Mathlib.Omega.{arith}
use lib.ListN.{length, take, length-append}
use lib.Seq.{sets, length-sets, take_at}
use Rattle.words.proofs.StoreLaws.{sets-append, front-stored}
use Rattle.frames.specs.Number.{most_number}
use Rattle.frames.specs.Layout.{longest_message, longest_token}
use Rattle.frames.specs.Token.{token_bytes}
use Rattle.frames.specs.Header.{header_follows}
use Rattle.record.specs.Size.{most_posts}
use Rattle.record.specs.inner.Head.{log_on, head_of}
use Rattle.record.specs.Held.{holds, let_go}
use Rattle.record.specs.Parts.{with_parts}
use Rattle.record.specs.Posts.{waiting, taken}
use Rattle.record.specs.Turn.{remembered}
use Rattle.record.specs.Whole.{posts_in_range}
use Rattle.record.specs.declared.head.LogHead.{LogHead}
use Rattle.record.specs.declared.log.Log.{Log}
use Rattle.record.specs.declared.posts.Posts.{Posts}
use Rattle.record.proofs.RangeFacts.{posts-range}
use Rattle.record.proofs.WholeFacts.{LogGood}
use Rattle.visit.specs.Output.{followed_by, most_frames, most_deliveries}
use Rattle.visit.specs.Level.{raised}
use Rattle.visit.specs.Deliver.{ring_header, frame_of, joined, handed_out, delivered}
use Rattle.visit.specs.Visit.{Visit, log, own, posts, with_sent, new_numbers, log_now, highest', safe', token', turn', log', rec', deaf, written, handed, visited_of}
use Rattle.record.specs.Count.{numbers_after}
use Rattle.visit.specs.Acceptable.{Acceptable}
use Rattle.visit.specs.inner.Steps.{repeat_frames, new_frames, sent_frames, sent_of, forwarded_of}
use Rattle.visit.specs.declared.broadcasting.Sent.{Sent}
use Rattle.visit.specs.declared.forwarding.Forwarded.{Forwarded}
use Rattle.visit.proofs.RingFacts.{ring-header}
use Rattle.visit.proofs.FrameLaws.{Writable, handed-fits, joined-join}
use Rattle.visit.proofs.TokenLaws.{token-short}
use Rattle.visit.proofs.VisitFacts.{facts, token-good, new-posts, new-numbers, now-good, now-new, now-safe, now-ring}
use Rattle.visit.proofs.VisitReads.{repeats-short, sent-short, written_is, written-fits}
use Rattle.visit.proofs.Forward.{sent-log, sent-added, safe-most}

module _ (v : Visit) (a : Acceptable v) where
  writable : Writable (log_now v)
  writable = record { log = now-good v a; header = rw (now-ring v a) (ring-header v.rec (facts v a)) }

  sent-both : joined (sent_frames v) ≡ joined (repeat_frames v) ++ joined (new_frames v)
  sent-both = joined-join (repeat_frames v) (new_frames v)

  -- all that is written: repeats, and behind them new messages and the token
  all_three : joined (written v) ≡ joined (repeat_frames v) ++ (joined (new_frames v) ++ token_bytes (token' v))
  all_three = written_is v a ∙ rw sent-both (append_assoc (joined (repeat_frames v)) (joined (new_frames v)) (token_bytes (token' v)))

  three-size : length (joined (written v)) ≡ length (joined (repeat_frames v)) + length (joined (new_frames v)) + length (token_bytes (token' v))
  three-size = rw (all_three, length-append (joined (repeat_frames v)) (joined (new_frames v) ++ token_bytes (token' v)), length-append (joined (new_frames v)) (token_bytes (token' v))) (omega arith)

  module _ (b : Sent) (sends : b ≡ sent_of v) where
    sent-size : b.size ≡ length (joined (repeat_frames v))
    unfolding sent_of
    sent-size = ap (λ (x : Sent). x.size) sends

    pub take-ready : (b.added ≤ (posts v).count) × ((posts v).count ≤ most_posts)
    take-ready = (omega (arith, sent-added v a b sends, new-posts v), (posts-range (posts v) (facts v a).posts).count)

    pub added-fits : b.added ≤ 16
    added-fits = omega (arith, take-ready)

    -- ---- the new messages' contents move

    pub place-ready : (posts_in_range (posts v) ≡ true) × (b.added ≤ (posts v).count) × (v.token.highest.0 + b.added ≤ most_number)
    place-ready = ((facts v a).posts, take-ready.0, omega (arith, sent-added v a b sends, new-numbers v, (token-good v a).highest))

    pub placed : (contents : List ℕ)
        → ((l : LogHead) (own : ℕ) → contents ≡ (with_sent (log_on l (log v).held.contents) own v.token.highest.0 (take b.added (waiting (posts v)))).held.contents)
        → log_on b.log contents ≡ log_now v
    unfolding log_now raised
    placed contents e = rw (sent-log v a b sends, e (head_of (log v)) (own v), sent-added v a b sends)

    -- ---- their frames

    module _ (contents : List ℕ) (now-is : log_on b.log contents ≡ log_now v) where
      pub run-ready : (long : ℕ)
          → most_frames ≤ long
          → LogGood (log_on b.log contents)
          × (header_follows (ring_header (log_on b.log contents)) ≡ true)
          × ((k : ℕ) → v.token.highest.0 < k → k ≤ v.token.highest.0 + b.added → holds (log_on b.log contents) k ≡ true)
          × (v.token.highest.0 + b.added ≤ most_number)
          × (b.size + longest_message * b.added ≤ long)
      unfolding highest'
      run-ready long enough =
          rw now-is (
            writable.log,
            subst (λ l. header_follows (ring_header l) ≡ true) (sym now-is) writable.header,
            λ k low high. now-new v a k low (omega (arith, sent-added v a b sends)),
            place-ready.2,
            omega (arith, sent-size, sent-added v a b sends, repeats-short v a),
          )

      module _ (at : ℕ) (out out' : List ℕ)
          (puts : (at ≡ b.size + length (joined (map (frame_of (log_on b.log contents)) (numbers_after v.token.highest.0 b.added))))
          × (out' ≡ sets out b.size (joined (map (frame_of (log_on b.log contents)) (numbers_after v.token.highest.0 b.added))))) where
        new-put : (at ≡ b.size + length (joined (new_frames v))) × (out' ≡ sets out b.size (joined (new_frames v)))
        unfolding new_numbers
        new-put = rw (now-is, sent-added v a b sends) at puts

        pub token-room : most_frames ≤ length out → at + longest_token ≤ length out'
        token-room enough =
            let same : length out' ≡ length out = rw new-put.1 (length-sets out b.size (joined (new_frames v))) in
            omega (arith, new-put.0, sent-size, same, ap length sent-both, length-append (joined (repeat_frames v)) (joined (new_frames v)), sent-short v a)

        -- ---- the token behind them

        module _ (f : Forwarded) (forwards : f ≡ forwarded_of v) where
          forward-turn : f.turn ≡ turn' v
          unfolding forwarded_of
          forward-turn = ap (λ (x : Forwarded). x.turn) forwards

          turn-size : f.turn.size ≡ length (token_bytes (token' v))
          unfolding turn'
          turn-size = rw forward-turn

          turn-token : remembered f.turn ≡ token_bytes (token' v)
          unfolding turn'
          turn-token = rw forward-turn (take_at (token_bytes (token' v)) _ (length (token_bytes (token' v))) refl)

          pub token-fits : f.turn.size ≤ longest_token
          token-fits = omega (arith, turn-size, token-short v a)

          pub remembered-room : most_frames ≤ length out → at + length (remembered f.turn) ≤ length out'
          remembered-room enough = omega (arith, token-room enough, ap length turn-token, token-short v a)

          pub all-size : at + f.turn.size ≡ length (joined (written v))
          all-size = omega (arith, new-put.0, sent-size, turn-size, three-size)

          pub all-behind : (out'' : List ℕ) → out'' ≡ sets out' at (remembered f.turn) → out'' ≡ sets out b.size (joined (new_frames v) ++ token_bytes (token' v))
          all-behind out'' e = e ∙ rw (new-put.1, new-put.0, turn-token) (sym (sets-append (joined (new_frames v)) (token_bytes (token' v)) out b.size))

    -- ---- all of it in the buffer

    pub all-written : (out out' out'' : List ℕ)
        → most_frames ≤ length out
        → out' ≡ sets out 0 (joined (repeat_frames v))
        → out'' ≡ sets out' b.size (joined (new_frames v) ++ token_bytes (token' v))
        → out'' ≡ followed_by (joined (written v)) out
    all-written out out' out'' room first second =
        let bytes = joined (written v) in
        let rest = joined (new_frames v) ++ token_bytes (token' v) in
        let stored : out'' ≡ sets out 0 bytes = second ∙ rw (first, sent-size, all_three) (sym (rw zero-add at (sets-append (joined (repeat_frames v)) rest out 0))) in
        stored ∙ front-stored (length bytes) bytes out refl (omega (arith, written-fits v a))

    -- ---- step 9

    module _ (f : Forwarded) (forwards : f ≡ forwarded_of v) (l : Log) (now-is : l ≡ log_now v) where
      forward-safe : f.safe.0 ≡ safe' v
      unfolding forwarded_of
      forward-safe = ap (λ (x : Forwarded). x.safe.0) forwards

      forward-deaf : f.deaf ≡ deaf v
      unfolding forwarded_of
      forward-deaf = ap (λ (x : Forwarded). x.deaf) forwards

      the-turn : f.turn ≡ turn' v
      unfolding forwarded_of
      the-turn = ap (λ (x : Forwarded). x.turn) forwards

      pub finish-ready : LogGood l × (header_follows (ring_header l) ≡ true) × (l.safe.0 ≤ f.safe.0) × (f.safe.0 ≤ most_number) × (b.added ≤ (posts v).count) × ((posts v).count ≤ most_posts)
      unfolding safe'
      finish-ready =
          let same : l.safe.0 ≡ (log v).safe.0 = rw (now-is, now-safe v a) in
          (rw now-is writable.log, rw now-is writable.header, omega (arith, forward-safe), omega (arith, forward-safe, safe-most v a), take-ready.0, take-ready.1)

      pub size_fits : (n : ℕ) → n ≡ length (handed_out l f.safe.0) → n ≤ most_deliveries
      size_fits n e = omega (arith, rw now-is at e, handed-fits (log_now v) writable f.safe.0)

      pub left : (written-size handed-size : ℕ)
          → written-size ≡ length (joined (written v))
          → handed-size ≡ length (handed_out l f.safe.0)
          → record { frames = written-size; deliveries = handed-size; deaf = f.deaf } ≡ visited_of v
      left written-size handed-size e g = rw (e, g, now-is, forward-safe, forward-deaf)

      pub left-record : (p : Posts)
          → p ≡ posts v
          → with_parts v.rec (let_go (delivered l f.safe.0) f.safe.0) f.turn (taken p b.added) ≡ rec' v
      unfolding rec' log'
      left-record p e = rw (now-is, forward-safe, the-turn, e, sent-added v a b sends)

      pub hands_out : (out out' : List ℕ) → out' ≡ followed_by (handed_out l f.safe.0) out → out' ≡ followed_by (handed v) out
      hands_out out out' e = e ∙ rw (now-is, forward-safe)
