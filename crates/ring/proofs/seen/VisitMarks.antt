-- The marks of a visit, as ordering sees them: level, highest number, aru, blocker, safe mark, delivered mark.
use Prim.Native.Nat.{ℕ, ◌+◌, ◌-◌, ◌≤◌}
use mathlib.Core.Path.{◌≡◌, refl, sym, ap, ◌∙◌, subst}
use mathlib.Core.Bool.{Bool, true, false, cond}
use mathlib.Core.List.{List, map}
use mathlib.Core.Option.{none, some}
use native.Mathlib.Omega.{arith}
use lib.ListN.{length, length-map}
use lib.Dec.{eqb}
use Rattle.frames.specs.Token.{token_bytes}
use Rattle.std.specs.Prelude.{Option as RustOption, Some, None}
use Rattle.record.specs.Size.{most_held}
use Rattle.record.specs.Held.{let_go}
use Rattle.record.proofs.HeldLaws.{held-sizes}
use Rattle.visit.specs.Deliver.{due, delivered}
use Rattle.visit.specs.Visit.{Visit, log, own, repeats, new_count, new_numbers, highest', log_now, level', own_or_nobody, sets_aru, aru', blocker', safe', token', log'}
use Rattle.visit.specs.Acceptable.{Acceptable}
use Rattle.visit.proofs.LevelLaws.{raised-level}
use Rattle.visit.proofs.LogSteps.{level-window}
use Rattle.visit.proofs.EachLaws.{after-length}
use Rattle.visit.proofs.VisitFacts.{facts, with_new, now-good, now-safe, now-delivered}
use Rattle.ordering.specs.inner.Frame as seen
use Rattle.ordering.specs.inner.Station.{Station, level_of, release}
use Rattle.ordering.specs.inner.Station as ordered
use Rattle.ordering.specs.inner.Visit as visit
use Rattle.ordering.specs.inner.Visit.{Choice}
use Rattle.ring.proofs.seen.View.{seen_blocker, seen_token, store_of, station_seen}
use Rattle.ring.proofs.seen.StoreLaws.{message_held, store-raised, store-delivered, store-let-go, level-same, good-held, due-same}
use Rattle.ring.proofs.seen.VisitStore.{new-level, store-now}

-- what a visit chooses: its repeats, its new messages and the bytes of its token
abbrev pub chosen : Visit → Choice
chosen v =
    record {
      repeats = map (message_held (log v)) (repeats v);
      added = map (message_held (log_now v)) (new_numbers v);
      text = token_bytes (token' v);
    }

-- the blocker that is written
blocker-by : (sets nobody : Bool) (own : ℕ) (b : RustOption ℕ)
    → cond sets (cond nobody none (some own)) (seen_blocker b) ≡ seen_blocker (cond sets (cond nobody None (Some own)) b)
blocker-by true true own b = refl
blocker-by true false own b = refl
blocker-by false nobody own b = refl

module _ (v : Visit) (ok : Acceptable v) (frame : List ℕ) where
  abbrev station : Station
  station = station_seen v.rec

  abbrev token : seen.Token
  token = seen_token v.token frame

  pub held-after : visit.held_after station token (chosen v) ≡ store_of (log_now v)
  unfolding station_seen
  held-after = sym (store-now v ok)

  pub level-after : visit.level_after station token (chosen v) ≡ level' v
  unfolding station_seen log_now
  level-after =
      ap (λ h. level_of h (log v).level.0) (held-after ∙ store-raised (with_new v ok))
      ∙ level-same (with_new v ok) (log v).level.0 (ap (λ k. k.0) (sym (new-level v ok)))
      ∙ sym (raised-level (with_new v ok))

  pub new-count : length (chosen v).added ≡ new_count v
  unfolding new_numbers
  new-count = length-map (new_numbers v) (message_held (log_now v)) ∙ after-length v.token.highest.0 (new_count v)

  pub highest-after : visit.highest_after station token (chosen v) ≡ highest' v
  unfolding highest'
  highest-after = rw new-count

  own-or-nobody : (b : RustOption ℕ) → visit.own_or_nobody station token (chosen v) (seen_blocker b) ≡ own_or_nobody (own v) b
  unfolding station_seen
  own-or-nobody None = refl
  own-or-nobody (Some id) = refl

  lowers : visit.lowers station token (chosen v) ≡ sets_aru v
  unfolding sets_aru
  lowers = rw (level-after, own-or-nobody v.token.blocker)

  pub aru-after : visit.aru_after station token (chosen v) ≡ aru' v
  unfolding visit.aru_after aru'
  aru-after = rw (lowers, level-after)

  pub blocker-after : visit.blocker_after station token (chosen v) ≡ seen_blocker (blocker' v)
  unfolding visit.blocker_after blocker' station_seen
  blocker-after = rw (lowers, level-after, highest-after) (blocker-by (sets_aru v) (eqb (level' v) (highest' v)) (own v) v.token.blocker)

  pub safe-after : visit.safe_after station token (chosen v) ≡ safe' v
  unfolding visit.safe_after safe' station_seen
  safe-after = rw aru-after

  -- ---- delivery

  pub handed-after : visit.handed_after station token (chosen v) ≡ map (message_held (log_now v)) (due (log_now v) (safe' v))
  unfolding visit.handed_after station_seen
  handed-after =
      rw (level-after, held-after, safe-after)
      (subst (λ k. ordered.due (store_of (log_now v)) (safe' v) (level' v - k.0) k.0 ≡ map (message_held (log_now v)) (due (log_now v) (safe' v)))
      (now-delivered v ok)
      (due-same (log_now v) (safe' v) (good-held (log_now v) (now-good v ok))))

  pub delivered-after : (log' v).delivered.0 ≡ station.delivered + length (visit.handed_after station token (chosen v))
  unfolding log' let_go delivered station_seen
  delivered-after =
      rw (handed-after, length-map (due (log_now v) (safe' v)) (message_held (log_now v)))
      (ap (λ k. k.0 + length (due (log_now v) (safe' v))) (now-delivered v ok))

  -- ---- everything up to the safe mark is let go

  safe-low : (log v).safe.0 ≤ safe' v
  unfolding safe'
  safe-low = omega arith

  safe-high : safe' v ≤ (log v).safe.0 + most_held
  unfolding safe'
  safe-high = omega (arith, (facts v ok).turn.aru, level-window (log v) (facts v ok).log.ready.marks)

  pub store-after : store_of (log' v) ≡ release (visit.safe_after station token (chosen v)) (visit.held_after station token (chosen v))
  unfolding log' delivered
  store-after =
      rw (safe-after, held-after)
      (store-let-go (delivered (log_now v) (safe' v)) (safe' v) (held-sizes (log_now v).held (now-good v ok).ready.stock.held.range)
      (subst (λ k. k.0 ≤ safe' v) (sym (now-safe v ok)) safe-low)
      (subst (λ k. safe' v ≤ k.0 + most_held) (sym (now-safe v ok)) safe-high)
      ∙ ap (release (safe' v)) (store-delivered (log_now v) (safe' v)))
