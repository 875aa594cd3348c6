-- Steps 4 to 8 as the code makes them: what each call hands to the next.
use Prim.Native.Nat.{ℕ, ◌+◌, ◌-◌, ◌≤◌, min, max}
use mathlib.Core.Path.{◌≡◌, refl, ap, ◌∙◌}
use mathlib.Core.Bool.{Bool, true, false, not, ◌&&◌, cond}
use mathlib.Core.List.{List, ◌++◌}
use borrow.Author.Tests.{le-leb}
use native.Mathlib.Nat.{sub-zero}
use native.Mathlib.Omega.{arith}
use lib.ListN.{length, take, replicate, length-take, length-replicate}
use lib.Dec.{ltb, eqb}
use Rattle.words.specs.Scan.{lacks}
use Rattle.frames.specs.Number.{most_number}
use Rattle.frames.specs.Layout.{most_round, most_backlog, most_requests, longest_token, token_size}
use Rattle.frames.specs.Token.{numbered, request_numbers, token_bytes}
use Rattle.frames.specs.Write.{writing_of, token_written, token_put}
use Rattle.frames.proofs.WriteLaws.{token-put}
use Rattle.frames.specs.declared.number.MessageNumber.{MessageNumber}
use Rattle.frames.specs.declared.header.Header.{Header}
use Rattle.frames.specs.declared.token.Token.{Token}
use Rattle.frames.proofs.TokenLaws.{drop-replicate}
use Rattle.record.specs.Size.{most_members, most_held, most_stall}
use Rattle.record.specs.inner.Head.{log_on, head_of}
use Rattle.record.specs.Held.{holds}
use Rattle.record.specs.declared.turn.Turn.{Turn}
use Rattle.visit.specs.Deliver.{ring_header}
use Rattle.visit.specs.Visit.{Visit, log, own, turn, others, waits, others_backlog, requests, unanswered, new_count, highest', log_now, is_nobody, is_own, sets_aru, aru', blocker', deaf_above, stall', deaf, safe', missing, requests', broadcasts, round', waits', backlog', next_member, token', turn'}
use Rattle.record.specs.Count.{those, numbers_after}
use Rattle.visit.specs.Acceptable.{Acceptable}
use Rattle.visit.specs.inner.Places.{padded}
use Rattle.visit.specs.inner.Steps.{sent_of, reach_after, reach_of, forwarded_of}
use Rattle.visit.specs.declared.broadcasting.Sent.{Sent}
use Rattle.visit.specs.declared.marks.Reach.{Reach}
use Rattle.visit.proofs.EachLaws.{those-length}
use Rattle.visit.proofs.RequestLaws.{few-requests}
use Rattle.visit.proofs.TokenLaws.{token-follows, token-long, token-short}
use Rattle.visit.proofs.VisitFacts.{facts, token-good, few-left, new-posts, few-broadcasts, highest-most, now-good}

-- a choice between two numbers
cond-number : (b : Bool) (x y : MessageNumber) → cond b x y ≡ record { 0 = cond b x.0 y.0 }
cond-number true x y = refl
cond-number false x y = refl

module _ (v : Visit) (a : Acceptable v) where
  pub members-fit : ((log v).count ≤ most_members) × (length (log v).members ≡ most_members)
  members-fit = let members = (facts v a).log.ready.members in (members.few, members.long)

  pub safe-most : safe' v ≤ most_number
  unfolding safe'
  safe-most = let marks = (facts v a).log.ready.marks in omega (arith, (facts v a).turn.aru)

  few-unanswered : length (unanswered v) ≤ most_requests
  unfolding unanswered requests
  few-unanswered =
      let asked = take v.token.count (request_numbers v.token) in
      omega (arith, those-length (λ n. not (holds (log v) n)) asked, length-take v.token.count (request_numbers v.token), (token-good v a).requests.few)

  -- ---- fields of the token that is written

  token-count : (token' v).count ≡ length (requests' v)
  unfolding token'
  token-count = refl

  token-aru : (token' v).aru ≡ record { 0 = aru' v }
  unfolding token'
  token-aru = refl

  token-number : (token' v).number ≡ record { 0 = v.token.number.0 + 1 }
  unfolding token'
  token-number = refl

  broadcasts-fit : broadcasts v ≤ 16
  broadcasts-fit = few-broadcasts v a

  pub sent-fits : (n : ℕ) → n ≡ (sent_of v).count → n ≤ 16
  unfolding sent_of
  sent-fits n e = omega (arith, broadcasts-fit)

  -- ---- what was sent

  module _ (b : Sent) (sends : b ≡ sent_of v) where
    pub sent-log : b.log ≡ head_of (log_now v)
    unfolding sent_of
    sent-log = ap (λ (x : Sent). x.log) sends

    sent-rest : b.rest ≡ unanswered v
    unfolding sent_of
    sent-rest = ap (λ (x : Sent). x.rest) sends

    pub sent-added : b.added ≡ new_count v
    unfolding sent_of
    sent-added = ap (λ (x : Sent). x.added) sends

    pub sent-count : b.count ≡ broadcasts v
    unfolding sent_of
    sent-count = ap (λ (x : Sent). x.count) sends

    sent-highest : v.token.highest.0 + b.added ≡ highest' v
    unfolding highest'
    sent-highest = rw sent-added

    pub highest-fits : v.token.highest.0 + b.added ≤ most_number
    highest-fits = omega (arith, sent-highest, highest-most v a)

    -- ---- step 4

    pub reached : (r : Reach) (highest : ℕ)
        → highest ≡ v.token.highest.0 + b.added
        → r ≡ reach_after (own v) b.log.level (record { 0 = highest }) v.token.aru v.token.blocker
        → r ≡ reach_of v
    unfolding reach_of aru' blocker' sets_aru
    reached r highest h e = e ∙ rw (cond-number, sent-log, h, sent-highest)

    -- ---- step 7

    module _ (safe : ℕ) (marks : safe ≡ safe' v) where
      pub window-fits : safe + most_held ≤ most_number + most_held
      window-fits = omega (arith, safe-most)

      module _ (top : ℕ) (tops : top ≡ min (v.token.highest.0 + b.added) (safe + most_held)) where
        pub missing-ready : (b.log.safe.0 ≤ most_number) × (top ≤ most_number) × (b.log.level.0 ≤ most_number) × (length b.rest ≤ most_requests)
        missing-ready =
            let m = (now-good v a).ready.marks in (
              rw sent-log (omega (arith, m.safe_first, m.level-last, m.level-most)),
              omega (arith, highest-fits),
              rw sent-log m.level-most,
              rw sent-rest few-unanswered,
            )

        pub requested : (r : List ℕ)
            → ((contents : List ℕ) → r ≡ take most_requests
            (b.rest ++ those (λ n. not (holds (log_on b.log contents) n) && lacks b.rest n) (numbers_after b.log.level.0 (top - b.log.level.0))))
            → r ≡ requests' v
        unfolding requests' missing
        requested r e = e (log_now v).held.contents ∙ rw (sent-rest, sent-log, tops, sent-highest, marks)

    -- ---- step 8

    pub round-fits : (n : ℕ) → n ≡ v.token.round - (turn v).broadcast → n + b.count ≤ 100000
    round-fits n e = omega (arith, sent-count, broadcasts-fit, (token-good v a).round)

    pub backlog-fits : (n waits-now : ℕ) → n ≡ v.token.backlog - (turn v).waited → waits-now ≡ waits' v → n + waits-now ≤ 100000
    backlog-fits n waits-now e w = omega (arith, few-left v a, (token-good v a).backlog)

    pub added-waited : b.added ≤ waits v
    added-waited = omega (arith, sent-added, new-posts v)

    pub left-waiting : (n : ℕ) → n ≡ waits v - b.added → n ≡ waits' v
    unfolding waits'
    left-waiting n e = e ∙ rw sent-added

    pub token-made : (header : Header) (addressee others-count round backlog-count waits-now backlog : ℕ) (r : Reach) (asked : List ℕ) (places : List MessageNumber)
        → header ≡ ring_header (log v)
        → addressee ≡ next_member (take ((log v).count - 0) (log v).members) (own v)
        → others-count ≡ v.token.round - (turn v).broadcast
        → round ≡ min (others-count + b.count) most_round
        → backlog-count ≡ v.token.backlog - (turn v).waited
        → waits-now ≡ waits' v
        → backlog ≡ min (backlog-count + waits-now) most_backlog
        → r ≡ reach_of v
        → asked ≡ requests' v
        → places ≡ numbered (padded asked)
        → record {
          header = header;
          addressee = addressee;
          number = record { 0 = v.token.number.0 + 1 };
          highest = record { 0 = v.token.highest.0 + b.added };
          aru = r.aru;
          blocker = r.blocker;
          round = round;
          backlog = backlog;
          count = length asked;
          requests = places;
        }
        ≡ token' v
    unfolding token' reach_of round' others backlog' others_backlog
    token-made header addressee others-count round backlog-count waits-now backlog r asked places h d o n q w m e f p =
        rw (h, d, n, o, m, q, w, sent-count, sent-highest, e, p, f, sub-zero)

  module _ (token : Token) (is : token ≡ token' v) where
    pub size_fits : (size : ℕ) → size ≡ token_size token.count → size ≤ longest_token
    size_fits size e = let known : size ≡ token_size (length (requests' v)) = e ∙ rw (is, token-count) in omega (arith, few-requests v a)

    token-written : token_put token (replicate longest_token 0) ≡ (token_written token (replicate longest_token 0)).out
    token-written =
        let zeros : List ℕ = replicate longest_token 0 in
        let long : length zeros ≡ longest_token = length-replicate {A = ℕ} longest_token 0 in
        token-put token zeros (rw is (token-follows v a)) (omega (arith, long, size_fits (token_size token.count) refl))

    pub turn-made : (bytes : List ℕ) (size count stall waits-now : ℕ)
        → bytes ≡ token_put token (replicate longest_token 0)
        → size ≡ token_size token.count
        → count ≡ (sent_of v).count
        → stall ≡ stall' v
        → waits-now ≡ waits' v
        → record {
          aru = token.aru;
          earlier = (turn v).aru;
          number = token.number;
          broadcast = count;
          stall = stall;
          waited = waits-now;
          size = size;
          token = bytes;
        }
        ≡ turn' v
    unfolding turn' writing_of sent_of
    turn-made bytes size count stall waits-now e f g h w =
        let frame = token_bytes (token' v) in
        let put : bytes ≡ frame ++ replicate (longest_token - length frame) 0 =
        rw (is, token-follows v a, le-leb (length frame) longest_token (token-short v a), drop-replicate longest_token (length frame)) at (e ∙ token-written) in
        let long : size ≡ length frame = f ∙ rw (is, token-long v a, token-count) in
        rw (put, long, g, h, w, is, token-aru, token-number)

  -- ---- steps 5 and 6, and all of it

  module _ (r : Reach) (reaches : r ≡ reach_of v) where
    reach-aru : r.aru.0 ≡ aru' v
    unfolding reach_of
    reach-aru = ap (λ (x : Reach). x.aru.0) reaches

    reach-blocker : r.blocker ≡ blocker' v
    unfolding reach_of
    reach-blocker = ap (λ (x : Reach). x.blocker) reaches

    pub stalled : (n : ℕ)
        → n ≡ cond (eqb r.aru.0 (turn v).aru.0 && not (is_nobody r.blocker)) (min ((turn v).stall + 1) most_stall) 0
        → n ≡ stall' v
    unfolding stall'
    stalled n e = e ∙ rw (reach-aru, reach-blocker)

    pub marked : (n : ℕ) → n ≡ max (log v).safe.0 (min (turn v).aru.0 r.aru.0) → n ≡ safe' v
    unfolding safe'
    marked n e = e ∙ rw reach-aru

    pub forwarded : (t : Turn) (safe : MessageNumber) (stall id : ℕ)
        → t ≡ turn' v
        → safe.0 ≡ max (log v).safe.0 (min (turn v).aru.0 r.aru.0)
        → stall ≡ cond (eqb r.aru.0 (turn v).aru.0 && not (is_nobody r.blocker)) (min ((turn v).stall + 1) most_stall) 0
        → id ≡ cond (ltb deaf_above stall && is_own (own v) r.blocker) (own v) 0
        → record { turn = t; safe = safe; deaf = id } ≡ forwarded_of v
    unfolding forwarded_of deaf
    forwarded t safe stall id e f g h =
        let mark : safe ≡ record { 0 = safe' v } = ap (λ (n : ℕ). record { 0 = n }) (marked safe.0 f) in
        let notice : id ≡ deaf v = h ∙ rw (stalled stall g, reach-blocker) in
        rw (e, mark, notice)
