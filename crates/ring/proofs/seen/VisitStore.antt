-- What a visit holds, as ordering sees it: the new messages on top of what was held.
use Prim.Native.Nat.{ℕ, zero, suc, ◌+◌, ◌<◌, ◌≤◌}
use mathlib.Core.Path.{◌≡◌, refl, sym, ap, ◌∙◌, fun_ext}
use mathlib.Core.Logic.{◌≢◌}
use mathlib.Core.List.{map}
use mathlib.Core.Option.{some}
use borrow.Author.Tests.{eq-eqb, ne_eqb}
use native.Mathlib.Decide.{dec_lt, ℕ_discrete}
use native.Mathlib.Omega.{arith}
use Rattle.record.specs.Held.{holds}
use Rattle.record.proofs.HeldLaws.{held_at}
use Rattle.record.specs.declared.log.Log.{Log}
use Rattle.visit.specs.Level.{raised}
use Rattle.visit.specs.Deliver.{ring_header}
use Rattle.visit.specs.Visit.{Visit, log, own, new_count, new_numbers, highest', log_now}
use Rattle.record.specs.Count.{numbers_after}
use Rattle.visit.specs.Acceptable.{Acceptable}
use Rattle.visit.proofs.NewLaws.{new-rest, new-below, new-above}
use Rattle.visit.proofs.VisitFacts.{new_posts, with_new, new-length, new-fit, now-new, now-ring}
use Rattle.ordering.specs.inner.Frame as seen
use Rattle.ordering.specs.inner.Station.{Store, put, put_all}
use Rattle.ring.proofs.seen.View.{message_at, store_of}
use Rattle.ring.proofs.seen.StoreLaws.{message_held, at_same, store-held}

-- ---- one message for each of the numbers after `highest`, put one after another

module _ (f : ℕ → seen.Message) (numbered : (n : ℕ) → (f n).number ≡ n) where
  put_other : (h : Store) (m n : ℕ) → n ≢ m → put (f m) h n ≡ h n
  unfolding put
  put_other h m n other = rw (numbered m, ne_eqb n m other)

  put_same : (h : Store) (n : ℕ) → put (f n) h n ≡ some (f n)
  unfolding put
  put_same h n = rw (numbered n, eq-eqb n n refl)

  put-below : (h : Store) (highest k n : ℕ) → n ≤ highest → put_all (map f (numbers_after highest k)) h n ≡ h n
  unfolding put_all numbers_after
  put-below h highest zero n low = refl
  put-below h highest (suc k) n low = put-below (put (f (suc highest)) h) (suc highest) k n (omega arith) ∙ put_other h (suc highest) n (omega arith)

  put-above : (h : Store) (highest k n : ℕ) → highest + k < n → put_all (map f (numbers_after highest k)) h n ≡ h n
  unfolding put_all numbers_after
  put-above h highest zero n high = refl
  put-above h highest (suc k) n high = put-above (put (f (suc highest)) h) (suc highest) k n (omega arith) ∙ put_other h (suc highest) n (omega arith)

  put-new : (h : Store) (highest k n : ℕ) → highest < n → n ≤ highest + k → put_all (map f (numbers_after highest k)) h n ≡ some (f n)
  unfolding put_all numbers_after
  put-new h highest zero n low high = absurd (omega arith)
  put-new h highest (suc k) n low high =
      elim (ℕ_discrete n (suc highest)) [
        | yes e ↦ put-below (put (f (suc highest)) h) (suc highest) k n (omega arith) ∙ rw (← e) (put_same h n)
        | no e ↦ put-new (put (f (suc highest)) h) (suc highest) k n (omega arith) (omega arith)
      ]

-- ---- logs of one ring that hold the same under a number

store_at : (k l : Log) (n : ℕ) → ring_header k ≡ ring_header l → held_at k n ≡ held_at l n → store_of k n ≡ store_of l n
unfolding store_of
store_at k l n ring held = ap (message_at k n) held ∙ at_same k l n (held_at l n) ring

raised_at : (l : Log) (n : ℕ) → held_at (raised l) n ≡ held_at l n
unfolding raised held_at holds
raised_at l n = refl

-- ---- a visit

module _ (v : Visit) (ok : Acceptable v) where
  pub new-level : (with_new v ok).level ≡ (log v).level
  new-level = ap (λ (l : Log). l.level) (new-rest (log v) (own v) v.token.highest.0 (new_posts v ok))

  -- what was held stays
  below-same : (n : ℕ) → n ≤ v.token.highest.0 → held_at (log_now v) n ≡ held_at (log v) n
  unfolding log_now
  below-same n low = raised_at (with_new v ok) n ∙ new-below (log v) (own v) v.token.highest.0 (new_posts v ok) (new-fit v ok) n low

  above_same : (n : ℕ) → v.token.highest.0 + new_count v < n → held_at (log_now v) n ≡ held_at (log v) n
  unfolding log_now
  above_same n high = raised_at (with_new v ok) n ∙ new-above (log v) (own v) v.token.highest.0 (new_posts v ok) (new-fit v ok) n (rw (new-length v ok) high)

  now-at : (n : ℕ) → store_of (log_now v) n ≡ put_all (map (message_held (log_now v)) (new_numbers v)) (store_of (log v)) n
  unfolding new_numbers highest'
  now-at n =
      let highest = v.token.highest.0 in
      let f = message_held (log_now v) in
      elim (dec_lt highest n) [
        | no h ↦ store_at (log_now v) (log v) n (now-ring v ok) (below-same n (omega arith)) ∙ sym (put-below f (λ m. refl) (store_of (log v)) highest (new_count v) n (omega arith))
        | yes h ↦ elim (dec_lt (highest + new_count v) n) [
          | yes k ↦ store_at (log_now v) (log v) n (now-ring v ok) (above_same n k) ∙ sym (put-above f (λ m. refl) (store_of (log v)) highest (new_count v) n k)
          | no k ↦ store-held (log_now v) n (now-new v ok n h (omega arith)) ∙ sym (put-new f (λ m. refl) (store_of (log v)) highest (new_count v) n h (omega arith))
        ]
      ]

  -- the new messages are put on top of what was held
  pub store-now : store_of (log_now v) ≡ put_all (map (message_held (log_now v)) (new_numbers v)) (store_of (log v))
  store-now = fun_ext now-at
