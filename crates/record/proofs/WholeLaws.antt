-- Whole: what the code tests, part by part.
use Prim.Native.Nat.{ℕ, ◌-◌, ◌≤◌}
use mathlib.Core.Path.{◌≡◌, sym, ◌∙◌}
use mathlib.Core.Bool.{Bool, true, false, not, ◌&&◌, and-false, and-true}
use mathlib.Core.List.{List}
use native.Mathlib.Nat.{sub-zero}
use borrow.Author.Tests.{le-leb, eq-eqb, ne_eqb, not-true, not-false}
use lib.ListN.{take}
use Rattle.frames.specs.Number.{most_id}
use Rattle.frames.proofs.Facts.{part}
use Rattle.record.specs.Size.{most_members}
use Rattle.record.specs.Members.{foundable}
use Rattle.record.specs.Whole.{log_in_range, turn_in_range, posts_in_range, senders_are_members, resend_passes, marks_in_order, arus_reached, held_to_level, next_not_held, log_unused_zero, turn_unused_zero, posts_unused_zero, log_whole, turn_whole, posts_whole, panel_right, parts_whole, whole}
use Rattle.record.specs.Panel.{undelivered}
use Rattle.record.specs.inner.Head.{log_on, record_on, record_head}
use Rattle.record.specs.declared.head.Head.{Head}
use Rattle.record.specs.declared.log.Log.{Log}
use Rattle.record.specs.declared.turn.Turn.{Turn}
use Rattle.record.specs.declared.posts.Posts.{Posts}
use Rattle.record.specs.declared.Record.{Record}
use Rattle.record.proofs.RangeFacts.{LogRange, TurnRange, log-range, turn-range}

-- ---- the log

module _ (own : ℕ) (l : Log) (t : Bool) (e : t ≡ log_in_range l) where
  pub log-refused : not t ≡ true → false ≡ log_whole own l
  unfolding log_whole
  log-refused f = rw (sym e ∙ not-true t f)

  pub log-ranged : not t ≡ false → LogRange l
  log-ranged f = log-range l (sym e ∙ not-false t f)

  pub log-whole-tested : not t ≡ false
      → (a b c d n z : Bool)
      → a ≡ senders_are_members (take (l.count - 0) l.members) l.held.senders
      → b ≡ foundable (take (l.count - 0) l.members) own l.ring.0
      → c ≡ marks_in_order l
      → d ≡ held_to_level l
      → n ≡ next_not_held l
      → z ≡ log_unused_zero l
      → (a && b && c && d && n && z) ≡ log_whole own l
  unfolding log_whole
  log-whole-tested f a b c d n z ea eb ec ed en ez = rw (sym e ∙ not-false t f, ea, eb, ec, ed, en, ez, sub-zero l.count)

-- ---- the turn

module _ (l : Log) (turn : Turn) (t : Bool) (e : t ≡ turn_in_range turn) where
  pub turn-refused : not t ≡ true → false ≡ turn_whole l turn
  unfolding turn_whole
  turn-refused f = rw (sym e ∙ not-true t f)

  pub turn-ranged : not t ≡ false → TurnRange turn
  turn-ranged f = turn-range turn (sym e ∙ not-false t f)

  pub turn-whole-tested : not t ≡ false
      → (a b c : Bool)
      → a ≡ resend_passes l.ring.0 (take (l.count - 0) l.members) turn
      → b ≡ arus_reached turn l.level.0
      → c ≡ turn_unused_zero turn
      → (a && b && c) ≡ turn_whole l turn
  unfolding turn_whole
  turn-whole-tested f a b c ea eb ec = rw (sym e ∙ not-false t f, ea, eb, ec, sub-zero l.count)

-- ---- the record

module _ (p : Posts) (t : Bool) (e : t ≡ posts_in_range p) where
  pub posts-refused : not t ≡ true → false ≡ posts_whole p
  unfolding posts_whole
  posts-refused f = rw (sym e ∙ not-true t f)

  pub posts-tested : not t ≡ false → (z : Bool) → z ≡ posts_unused_zero p → z ≡ posts_whole p
  unfolding posts_whole
  posts-tested f z ez = rw (sym e ∙ not-false t f, ez)

module _ (r : Record) (u : Bool) (g : u ≡ posts_whole r.posts) where
  pub whole-postless : not u ≡ true → false ≡ parts_whole r
  unfolding parts_whole
  whole-postless f = simp (sym g ∙ not-true u f, and-false)

  module _ (t : Bool) (e : t ≡ log_whole r.own r.log) where
    pub whole-refused : not t ≡ true → false ≡ parts_whole r
    unfolding parts_whole
    whole-refused f = simp (sym e ∙ not-true t f, and-false)

    pub members-few : not t ≡ false → r.log.count ≤ most_members
    unfolding log_whole
    members-few f = (log-range r.log (part (sym e ∙ not-false t f) (λ (h : log_in_range r.log ≡ false). rw h))).count

    pub whole-tested : not u ≡ false → not t ≡ false → r.own ≤ most_id → (a : Bool) → a ≡ turn_whole r.log r.turn → a ≡ parts_whole r
    unfolding parts_whole
    whole-tested k f own a ea = simp (le-leb r.own most_id own, sym e ∙ not-false t f, sym g ∙ not-false u k, ea, and-true)

-- ---- the panel's count, of a record by value

module _ (r : Record) (h : Head) (count : ℕ) (e : h ≡ record_head r) (counts : (contents : List ℕ) → count ≡ undelivered (log_on h.log contents)) where
  counted : count ≡ undelivered r.log
  counted = counts r.log.held.contents ∙ rw e

  pub shown-wrong : (r.panel ≡ count → ⊥) → false ≡ whole r
  unfolding whole panel_right
  shown-wrong ne = rw (ne_eqb r.panel (undelivered r.log) (λ q. ne (q ∙ sym counted)))

  pub shown-right : r.panel ≡ count → (b : Bool) → b ≡ parts_whole (record_on h r.log.held.contents r.posts.contents) → b ≡ whole r
  unfolding whole panel_right parts_whole
  shown-right same b f = rw (eq-eqb r.panel (undelivered r.log) (same ∙ counted)) (rw e at f)
