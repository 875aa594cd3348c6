-- What an acceptable visit tells: its counts, and what is held once the new messages are.
use Prim.Native.Nat.{ℕ, ◌+◌, ◌-◌, ◌<◌, ◌≤◌, min}
use mathlib.Core.Path.{◌≡◌, sym, ap, ◌∙◌}
use mathlib.Core.Bool.{true, false, and-false, Bool, cond}
use mathlib.Core.List.{List}
use borrow.Author.Tests.{leb-true}
use native.Mathlib.Decide.{dec_lt}
use native.Mathlib.Omega.{arith}
use lib.ListN.{length, take, length-take}
use lib.Dec.{leb, eqb}
use lib.Seq.{length-take-le}
use Rattle.words.specs.Scan.{all_within}
use Rattle.frames.specs.Number.{most_number}
use Rattle.frames.specs.Layout.{most_content, most_round, most_backlog}
use Rattle.frames.specs.Token.{request_numbers}
use Rattle.frames.proofs.Facts.{part, TokenFacts, token-facts}
use Rattle.record.specs.Size.{most_held, most_broadcasts, most_posts}
use Rattle.record.specs.Held.{holds, held_numbers, log_with}
use Rattle.record.specs.Posts.{Post, waiting}
use Rattle.record.specs.Ring.{ids}
use Rattle.record.specs.declared.log.Log.{Log}
use Rattle.record.proofs.HeldLaws.{held-sizes}
use Rattle.record.proofs.HeldFacts.{within_held}
use Rattle.record.proofs.HeldWhole.{EntryGood}
use Rattle.record.proofs.MemberLaws.{own-most}
use Rattle.record.proofs.PostLaws.{length-waiting}
use Rattle.record.proofs.RangeFacts.{posts-range}
use Rattle.record.proofs.WholeFacts.{LogGood, RecordGood, whole-good}
use Rattle.visit.specs.Level.{level_of, raised}
use Rattle.visit.specs.Deliver.{ring_header}
use Rattle.visit.specs.Visit.{Visit, log, own, posts, most_new, most_in_round, others, round_allowance, waits, others_backlog, share, allowance, requests, repeats, new_count, sent_by, with_sent, highest', log_now, level', broadcasts, round', waits', backlog'}
use Rattle.visit.specs.Acceptable.{covers_held}
use Rattle.visit.specs.Reads.{Each}
use Rattle.visit.specs.Acceptable.{Acceptable}
use Rattle.visit.proofs.LevelLaws.{raised-holds, raised-level, level-low, level-most}
use Rattle.visit.proofs.RingFacts.{founded-facts, own-some}
use Rattle.visit.proofs.NewLaws.{NewFit, new-rest, holds-above, holds-new}
use Rattle.visit.proofs.NewWhole.{new-ready, posts-entries}
use Rattle.visit.proofs.LogSteps.{raised-good}
use Rattle.visit.proofs.EachLaws.{each_map, each_take, those-length}

-- ---- the counts

module _ (v : Visit) where
  pub new-allowed : new_count v ≤ allowance v - length (repeats v)
  unfolding new_count
  new-allowed = omega arith

  pub new-posts : new_count v ≤ (posts v).count
  unfolding new_count
  new-posts = omega arith

  pub new-window : new_count v ≤ (log v).safe.0 + most_held - v.token.highest.0
  unfolding new_count
  new-window = omega arith

  pub new-numbers : new_count v ≤ most_number - v.token.highest.0
  unfolding new_count
  new-numbers = omega arith

  few-allowed : allowance v ≤ most_new
  unfolding allowance round_allowance
  few-allowed = go (eqb (waits v) 0)
    where
      go : (b : Bool) → cond b (min most_new (most_in_round - others v)) (min (min most_new (most_in_round - others v)) (share (others_backlog v) (waits v))) ≤ most_new
      go true = omega arith
      go false = omega arith

  pub few-new : new_count v ≤ 8 - length (repeats v)
  few-new = omega (arith, new-allowed, few-allowed)

  pub few-repeats : length (repeats v) ≤ v.token.count
  unfolding repeats requests
  few-repeats =
      let h = those-length (holds (log v)) (take v.token.count (request_numbers v.token)) in
      let k = length-take v.token.count (request_numbers v.token) in
      omega arith

  pub round-most : round' v ≤ most_round
  unfolding round'
  round-most = omega arith

  pub backlog-most : backlog' v ≤ most_backlog
  unfolding backlog'
  backlog-most = omega arith

module _ (v : Visit) (a : Acceptable v) where
  pub facts : RecordGood v.rec
  facts = whole-good v.rec a.whole_record

  pub token-good : TokenFacts v.token
  token-good = token-facts v.token a.follows

  pub few-wait : waits v ≤ most_posts
  few-wait = (posts-range (posts v) facts.posts).count

  pub few-left : waits' v ≤ most_posts
  unfolding waits'
  few-left = omega (arith, few-wait)

  pub few-broadcasts : broadcasts v ≤ most_broadcasts
  unfolding broadcasts
  few-broadcasts = omega (arith, few-repeats v, few-new v, token-good.requests.few)

  -- ---- the token's highest is at least the level and all that is held

  pub level-highest : (log v).level.0 ≤ v.token.highest.0
  unfolding covers_held
  level-highest = leb-true (log v).level.0 v.token.highest.0 (part a.covers (λ (f : leb (log v).level.0 v.token.highest.0 ≡ false). rw f))

  pub held-highest : (n : ℕ) → holds (log v) n ≡ true → n ≤ v.token.highest.0
  unfolding covers_held
  held-highest n h =
      let top = v.token.highest.0 in
      within_held (log v) top (part a.covers (λ (f : all_within 1 top (held_numbers (log v)) ≡ false). simp (f, and-false))) n h

  pub safe-highest : (log v).safe.0 ≤ v.token.highest.0
  safe-highest = omega (arith, level-highest, facts.log.ready.marks)

  pub highest-most : highest' v ≤ most_number
  unfolding highest'
  highest-most = omega (arith, new-numbers v, token-good.highest)

  -- ---- the new messages

  abbrev pub new_posts : List Post
  new_posts = take (new_count v) (waiting (posts v))

  pub new-length : length new_posts ≡ new_count v
  new-length = length-take-le (new_count v) (waiting (posts v)) (omega (arith, new-posts v, length-waiting (posts v)))

  new-entries : Each (λ p. EntryGood (ids (log v)) (sent_by (own v) p)) new_posts
  new-entries =
      let f = founded-facts v.rec facts in
      each_take (λ p. EntryGood (ids (log v)) (sent_by (own v) p)) (new_count v) (waiting (posts v))
      (posts-entries (ids (log v)) (own v) (posts v) 0 (posts v).count (posts-range (posts v) facts.posts) (own-some v.rec facts) (own-most (ids (log v)) (own v) f) f.among)

  pub new-fit : NewFit (log v) (own v) v.token.highest.0 new_posts
  new-fit =
      record {
        sizes = held-sizes (log v).held facts.log.ready.stock.held.range;
        low = safe-highest;
        high = λ some. omega (arith, new-length, new-window v);
        named = own-some v.rec facts;
        short = each_map (λ p. EntryGood (ids (log v)) (sent_by (own v) p)) (λ p. length p.content ≤ most_content) new_posts (λ p e. e.short) new-entries;
      }

  -- ---- what is held then

  abbrev pub with_new : Log
  with_new = with_sent (log v) (own v) v.token.highest.0 new_posts

  pub now-good : LogGood (log_now v)
  unfolding log_now highest'
  now-good =
      raised-good with_new
      (new-ready (log v) (own v) v.token.highest.0 new_posts facts.log.ready new-fit (omega (arith, new-length, highest-most)) held-highest new-entries)

  now-holds : (n : ℕ) → holds (log_now v) n ≡ holds with_new n
  unfolding log_now
  now-holds n = raised-holds with_new n

  -- nothing above the highest number
  pub now-most : (n : ℕ) → holds (log_now v) n ≡ true → n ≤ highest' v
  unfolding highest'
  now-most n h =
      elim (dec_lt (v.token.highest.0 + length new_posts) n) [
        | no k ↦ omega (arith, new-length)
        | yes k ↦
            let before = held-highest n (sym (holds-above (log v) (own v) v.token.highest.0 new_posts new-fit n k) ∙ sym (now-holds n) ∙ h) in
            omega arith
      ]

  -- every new number
  pub now-new : (n : ℕ) → v.token.highest.0 < n → n ≤ highest' v → holds (log_now v) n ≡ true
  unfolding highest'
  now-new n low high = now-holds n ∙ holds-new (log v) (own v) v.token.highest.0 new_posts new-fit n low (omega (arith, new-length))

  -- what was held before
  -- ---- all else but the level stays

  now-rest : log_now v ≡ log_with (log v) (log_now v).level (log v).safe (log v).delivered (log_now v).held
  unfolding log_now raised
  now-rest = ap (λ (l : Log). log_with l (record { 0 = level_of with_new }) l.safe l.delivered with_new.held) (new-rest (log v) (own v) v.token.highest.0 new_posts)

  pub now-safe : (log_now v).safe ≡ (log v).safe
  now-safe = ap (λ (l : Log). l.safe) now-rest

  pub now-delivered : (log_now v).delivered ≡ (log v).delivered
  now-delivered = ap (λ (l : Log). l.delivered) now-rest

  pub now-ring : ring_header (log_now v) ≡ ring_header (log v)
  now-ring = ap (λ (l : Log). ring_header l) now-rest

  pub now-ids : ids (log_now v) ≡ ids (log v)
  now-ids = ap (λ (l : Log). ids l) now-rest

  -- ---- the level then

  new-level : with_new.level.0 ≡ (log v).level.0
  new-level = ap (λ (l : Log). l.level.0) (new-rest (log v) (own v) v.token.highest.0 new_posts)

  now-level : level' v ≡ level_of with_new
  unfolding log_now
  now-level = raised-level with_new

  pub level-rises : (log v).level.0 ≤ level' v
  level-rises = omega (arith, now-level, new-level, level-low with_new)

  pub level-most' : level' v ≤ highest' v
  unfolding highest'
  level-most' =
      let low : with_new.level.0 ≤ v.token.highest.0 + new_count v = omega (arith, new-level, level-highest) in
      omega (arith, now-level, level-most with_new (v.token.highest.0 + new_count v) low (λ n h. now-most n (now-holds n ∙ h)))
