-- New messages and the share.
use Prim.Native.Nat.{ℕ, ◌+◌, ◌-◌, ◌<◌, ◌≤◌}
use mathlib.Core.Path.{◌≡◌}
use native.Mathlib.Omega.{arith}
use borrow.Author.Tests.{ne_eqb}
use lib.ListN.{length}
use Rattle.frames.specs.Number.{most_number}
use Rattle.record.specs.Size.{most_held}
use Rattle.visit.specs.Visit.{Visit, log, waits, round_allowance, others_backlog, share, allowance, repeats, new_count}
use Rattle.visit.proofs.VisitFacts.{new-allowed}

share-some : (others own : ℕ) → 1 ≤ share others own
unfolding share
share-some others own = omega arith

module _ (v : Visit) (some : 0 < waits v) where
  allowed-share : allowance v ≤ share (others_backlog v) (waits v)
  unfolding allowance
  allowed-share = rw (ne_eqb (waits v) 0 (λ e. omega arith)) (omega arith)

  allowed-some : 0 < round_allowance v → 1 ≤ allowance v
  unfolding allowance
  allowed-some round = rw (ne_eqb (waits v) 0 (λ e. omega arith)) (omega (arith, share-some (others_backlog v) (waits v)))

  pub within-share : new_count v ≤ share (others_backlog v) (waits v) - length (repeats v)
  within-share = omega (arith, new-allowed v, allowed-share)

  pub one-sent : length (repeats v) ≡ 0 → 0 < round_allowance v → v.token.highest.0 < (log v).safe.0 + most_held → v.token.highest.0 < most_number → 1 ≤ new_count v
  unfolding new_count
  one-sent none round window numbers = omega (arith, allowed-some round)
