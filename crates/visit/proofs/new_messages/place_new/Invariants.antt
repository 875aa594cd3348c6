use Prim.Native.Nat.{ℕ}
use mathlib.Core.Path.{◌≡◌}
use mathlib.Core.List.{List}
use lib.ListN.{length, drop}
use Rattle.record.specs.inner.Head.{contents_in, waiting_in}
use Rattle.record.specs.Layout.{record_size, log_at, turn_at, posts_at}
use Rattle.record.specs.declared.head.LogHead.{LogHead}
use Rattle.visit.proofs.HoldNew.{posts_in, Placing}
use Rattle.visit.proofs.new_messages.place_new.Given as goal

abbrev pub invariant-loop-i : goal.invariant-loop-i
invariant-loop-i l =
    (length l.s ≡ record_size)
    × (drop turn_at l.s ≡ drop turn_at l.initial.s)
    × ((h : LogHead) (own : ℕ) (services : List ℕ) → Placing h own l.highest.0 (posts_in l.n services l.posts.lengths (waiting_in l.initial.s posts_at)) l.n (contents_in l.initial.s log_at) (contents_in l.s log_at) l.i)
