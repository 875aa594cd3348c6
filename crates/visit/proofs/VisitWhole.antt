-- A token that is accepted leaves a whole record whole.
use Prim.Native.Nat.{ℕ, ◌+◌, ◌-◌, ◌≤◌, min}
use mathlib.Core.Path.{◌≡◌, refl, ap, ◌∙◌}
use mathlib.Core.Bool.{Bool, true, false, not, ◌&&◌, ◌||◌, cond, or-true}
use mathlib.Core.List.{List, ◌++◌}
use borrow.Author.Tests.{ltb-false}
use native.Mathlib.Omega.{arith}
use lib.ListN.{length, drop, replicate, length-append, length-replicate}
use lib.Seq.{take-append_seam, drop-append_seam}
use lib.Dec.{ltb, eqb}
use Rattle.words.specs.Scan.{all_zero}
use Rattle.frames.specs.Layout.{longest_token}
use Rattle.frames.specs.Token.{token_bytes}
use Rattle.frames.specs.declared.header.Header.{Header}
use Rattle.frames.specs.declared.number.MessageNumber.{MessageNumber}
use Rattle.record.specs.Size.{most_stall}
use Rattle.record.specs.Held.{let_go}
use Rattle.record.specs.Ring.{ids}
use Rattle.record.specs.Whole.{resend_passes, whole}
use Rattle.record.proofs.ListLaws.{zeros-zero}
use Rattle.record.specs.Posts.{taken}
use Rattle.record.proofs.PostsWhole.{taken-in-range, taken-unused-zero}
use Rattle.record.proofs.WholeFacts.{LogGood, TurnGood, good-whole, parts-show}
use Rattle.visit.specs.Deliver.{due, delivered}
use Rattle.visit.specs.Visit.{Visit, log, turn, posts, own, new_count, log_now, level', own_or_nobody, sets_aru, aru', blocker', is_nobody, stall', safe', token', turn', log', rec'}
use Rattle.visit.specs.Acceptable.{Acceptable}
use Rattle.visit.proofs.VisitFacts.{few-left, facts, new-posts, few-broadcasts, now-good, now-safe, now-ring, now-ids, level-rises}
use Rattle.visit.proofs.TokenLaws.{token-passes, token-short}
use Rattle.visit.proofs.DueLaws.{due-least}
use Rattle.visit.proofs.LogSteps.{level-window, delivered-good, let-go-log}

-- ---- bytes, and zeros up to a length

padded-long : (bytes : List ℕ) (most : ℕ) → length bytes ≤ most → length (bytes ++ replicate (most - length bytes) 0) ≡ most
padded-long bytes most h = length-append bytes (replicate (most - length bytes) 0) ∙ rw length-replicate (omega arith)

padded-rest : (bytes : List ℕ) (n : ℕ) → all_zero (drop (length bytes) (bytes ++ replicate n 0)) ≡ true
padded-rest bytes n = rw (drop-append_seam bytes (replicate n 0)) (zeros-zero n 0)

module _ (v : Visit) (a : Acceptable v) where
  -- ---- aru and the safe mark

  aru-level : aru' v ≤ level' v
  unfolding aru' sets_aru
  aru-level = go (ltb (level' v) v.token.aru.0) refl (own_or_nobody (own v) v.token.blocker)
    where
      go : (above : Bool) → ltb (level' v) v.token.aru.0 ≡ above → (mine : Bool) → cond (above || mine) (level' v) v.token.aru.0 ≤ level' v
      go true e mine = omega arith
      go false e true = omega arith
      go false e false = ltb-false (level' v) v.token.aru.0 e

  safe-low : (log v).safe.0 ≤ safe' v
  unfolding safe'
  safe-low = omega arith

  safe-level : safe' v ≤ (log v).level.0
  unfolding safe'
  safe-level = omega (arith, (facts v a).log.ready.marks, (facts v a).turn.aru)

  -- ---- the log afterwards

  safe-same : (log_now v).safe.0 ≡ (log v).safe.0
  safe-same = ap (λ (m : MessageNumber). m.0) (now-safe v a)

  log-good : LogGood (log' v)
  unfolding log' delivered
  log-good =
      let l = delivered (log_now v) (safe' v) in
      let done : safe' v ≤ (log_now v).delivered.0 + length (due (log_now v) (safe' v)) = due-least (log_now v) (safe' v) (omega (arith, safe-level, level-rises v a)) in
      let-go-log l (safe' v) (delivered-good (log_now v) (safe' v) (now-good v a))
      (omega (arith, safe-low, safe-same))
      (omega (arith, safe-level, level-window (log v) (facts v a).log.ready.marks, safe-same))
      done

  log-ring : ((log' v).ring ≡ (log v).ring) × (ids (log' v) ≡ ids (log v))
  unfolding log' let_go delivered
  log-ring = (ap (λ (h : Header). h.ring) (now-ring v a), now-ids v a)

  log-level : (log' v).level.0 ≡ level' v
  unfolding log' let_go delivered
  log-level = refl

  -- ---- the turn afterwards

  stall-most : stall' v ≤ most_stall
  unfolding stall'
  stall-most = go (eqb (aru' v) (turn v).aru.0 && not (is_nobody (blocker' v)))
    where
      go : (b : Bool) → cond b (min ((turn v).stall + 1) most_stall) 0 ≤ most_stall
      go true = omega arith
      go false = omega arith

  leave-good : resend_passes (log v).ring.0 (ids (log v)) (turn' v) ≡ true
  unfolding resend_passes turn'
  leave-good =
      let t = token_bytes (token' v) in
      rw (take-append_seam t (replicate (longest_token - length t) 0), token-passes v a) (or-true (not (not (eqb (length t) 0))))

  turn-good : TurnGood (log v).ring.0 (ids (log v)) (level' v) (turn' v)
  unfolding turn'
  turn-good =
      let t = token_bytes (token' v) in
      record {
        range =
            record {
              token-long = padded-long t longest_token (token-short v a);
              aru = omega (arith, aru-level, (now-good v a).ready.marks.level-most);
              earlier = (facts v a).turn.range.aru;
              number = omega (arith, a.not_last);
              broadcast = few-broadcasts v a;
              stall = stall-most;
              waited = few-left v a;
              size = token-short v a;
            };
        aru = aru-level;
        earlier = omega (arith, (facts v a).turn.aru, level-rises v a);
        leave = leave-good;
        rest = padded-rest t (longest_token - length t);
      }

  -- ---- the record

  pub accepted-whole : whole (rec' v) ≡ true
  unfolding rec'
  accepted-whole =
      good-whole (rec' v)
      (record {
        log = log-good;
        turn = rw (log-ring.0, log-ring.1, log-level) turn-good;
        founded = rw (log-ring.0, log-ring.1) (facts v a).founded;
        posts = taken-in-range (posts v) (new_count v) (new-posts v) (facts v a).posts;
        posts-rest = taken-unused-zero (posts v) (new_count v) (new-posts v) (facts v a).posts (facts v a).posts-rest;
        panel = parts-show v.rec (log' v) (turn' v) (taken (posts v) (new_count v));
      })
