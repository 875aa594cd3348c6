-- What a whole record tells, as facts, and that a record with these facts is whole.
use Prim.Native.Nat.{ℕ, suc, ◌<◌, ◌≤◌}
use mathlib.Core.Path.{◌≡◌, refl}
use mathlib.Core.Bool.{true, false, not, and-false}
use mathlib.Core.List.{List}
use borrow.Author.Tests.{leb-true, le-leb, eq-eqb, eqb-true, not-true}
use native.Mathlib.Omega.{arith}
use lib.ListN.{length, drop}
use lib.Dec.{leb, eqb}
use Rattle.words.specs.Scan.{all_zero}
use Rattle.frames.specs.Number.{most_number, most_id}
use Rattle.frames.specs.Layout.{longest_token}
use Rattle.frames.proofs.Facts.{part}
use Rattle.record.specs.Size.{most_members, most_broadcasts, most_posts, most_stall}
use Rattle.record.specs.Held.{holds}
use Rattle.record.specs.Members.{foundable}
use Rattle.record.specs.Ring.{ids}
use Rattle.record.specs.Whole.{log_in_range, turn_in_range, posts_in_range, senders_are_members, resend_passes, marks_in_order, arus_reached, held_to_level, next_not_held, contents_padded, free_places_zero, log_unused_zero, posts_unused_zero, turn_unused_zero, log_whole, turn_whole, posts_whole, panel_right, parts_whole, whole}
use Rattle.record.specs.Panel.{undelivered}
use Rattle.record.specs.Parts.{with_parts}
use Rattle.record.specs.declared.log.Log.{Log}
use Rattle.record.specs.declared.turn.Turn.{Turn}
use Rattle.record.specs.declared.posts.Posts.{Posts}
use Rattle.record.specs.declared.Record.{Record}
use Rattle.record.proofs.RangeFacts.{TurnRange, log-range, turn-range}
use Rattle.record.proofs.MemberLaws.{foundable-facts, own-most}
use Rattle.record.proofs.HeldWhole.{HeldGood}
use Rattle.record.proofs.LogWhole.{StockGood}
use Rattle.record.proofs.HeldFacts.{senders-known, known-senders, free-zero, zero-free, held-in-range, numbers-most, most-numbers, levels-held, held-levels}

-- ---- the facts

pub record MarksGood (l : Log) : Type 0 where
  pub safe_first : l.safe.0 ≤ l.delivered.0
  pub level-last : l.delivered.0 ≤ l.level.0
  pub level-most : l.level.0 ≤ most_number
  pub to_level : (n : ℕ) → l.safe.0 < n → n ≤ l.level.0 → holds l n ≡ true

pub record MembersGood (count : ℕ) (members : List ℕ) : Type 0 where
  pub long : length members ≡ most_members
  pub few : count ≤ most_members
  pub rest : all_zero (drop count members) ≡ true

-- a log whose level may still rise
pub record LogReady (l : Log) : Type 0 where
  pub members : MembersGood l.count l.members
  pub stock : StockGood l
  pub marks : MarksGood l

pub record LogGood (l : Log) : Type 0 where
  pub ready : LogReady l
  pub next : holds l (suc l.level.0) ≡ false

pub record TurnGood (ring : ℕ) (members : List ℕ) (level : ℕ) (t : Turn) : Type 0 where
  pub range : TurnRange t
  pub aru : t.aru.0 ≤ level
  pub earlier : t.earlier.0 ≤ level
  pub leave : resend_passes ring members t ≡ true
  pub rest : all_zero (drop t.size t.token) ≡ true

pub record RecordGood (r : Record) : Type 0 where
  pub log : LogGood r.log
  pub turn : TurnGood r.log.ring.0 (ids r.log) r.log.level.0 r.turn
  pub founded : foundable (ids r.log) r.own r.log.ring.0 ≡ true
  pub posts : posts_in_range r.posts ≡ true
  pub posts-rest : posts_unused_zero r.posts ≡ true
  pub panel : r.panel ≡ undelivered r.log

-- ---- the log

module _ (l : Log) where
  log-in-range : LogReady l → log_in_range l ≡ true
  unfolding log_in_range
  log-in-range g =
      rw (
        eq-eqb (length l.members) most_members g.members.long,
        le-leb l.count most_members g.members.few,
        le-leb l.level.0 most_number g.marks.level-most,
        le-leb l.safe.0 most_number (omega (arith, g.marks)),
        le-leb l.delivered.0 most_number (omega (arith, g.marks)),
        held-in-range l.held g.stock.held.range,
        most-numbers l g.stock.numbers,
      )

  log-marks : LogGood l → (marks_in_order l ≡ true) × (held_to_level l ≡ true) × (next_not_held l ≡ true)
  unfolding marks_in_order next_not_held
  log-marks g =
      let m = g.ready.marks in (
        rw (le-leb l.safe.0 l.delivered.0 m.safe_first, le-leb l.delivered.0 l.level.0 m.level-last),
        held-levels l m.to_level,
        rw g.next,
      )

  log-unused : LogReady l → log_unused_zero l ≡ true
  unfolding log_unused_zero
  log-unused g = rw (g.members.rest, zero-free l.held g.stock.held.free, g.stock.held.padded)

  log-good : (own : ℕ) → log_whole own l ≡ true → LogGood l
  unfolding log_whole marks_in_order next_not_held log_unused_zero
  log-good own e =
      let r = log-range l (part e (λ (f : log_in_range l ≡ false). rw f)) in
      let unused-members = part e (λ (f : all_zero (drop l.count l.members) ≡ false). simp (f, and-false)) in
      let held : HeldGood (ids l) l.held =
      record {
        range = r.held;
        known = senders-known (ids l) l.held.senders (part e (λ (f : senders_are_members (ids l) l.held.senders ≡ false). simp (f, and-false)));
        free = free-zero l.held (part e (λ (f : free_places_zero l.held ≡ false). simp (f, and-false)));
        padded = part e (λ (f : contents_padded l.held.lengths l.held.contents ≡ false). simp (f, and-false));
      } in
      let marks : MarksGood l =
      record {
        safe_first = leb-true l.safe.0 l.delivered.0 (part e (λ (f : leb l.safe.0 l.delivered.0 ≡ false). simp (f, and-false)));
        level-last = leb-true l.delivered.0 l.level.0 (part e (λ (f : leb l.delivered.0 l.level.0 ≡ false). simp (f, and-false)));
        level-most = r.level;
        to_level = levels-held l (part e (λ (f : held_to_level l ≡ false). simp (f, and-false)));
      } in
      record {
        ready =
            record {
              members = record { long = r.members-long; few = r.count; rest = unused-members };
              stock = record { held = held; numbers = numbers-most l r.numbers };
              marks = marks;
            };
        next = not-true (holds l (suc l.level.0)) (part e (λ (f : not (holds l (suc l.level.0)) ≡ false). simp (f, and-false)));
      }

  log-founded : (own : ℕ) → log_whole own l ≡ true → foundable (ids l) own l.ring.0 ≡ true
  unfolding log_whole
  log-founded own e = part e (λ (f : foundable (ids l) own l.ring.0 ≡ false). simp (f, and-false))

  good-log : (own : ℕ) → LogGood l → foundable (ids l) own l.ring.0 ≡ true → log_whole own l ≡ true
  unfolding log_whole
  good-log own g founded =
      let marks = log-marks g in
      rw (
        log-in-range g.ready,
        known-senders (ids l) l.held.senders g.ready.stock.held.known,
        founded,
        marks.0,
        marks.1,
        marks.2,
        log-unused g.ready,
      )

-- ---- the turn

turn-in-range : (t : Turn) → TurnRange t → turn_in_range t ≡ true
unfolding turn_in_range
turn-in-range t r =
    rw (
      eq-eqb (length t.token) longest_token r.token-long,
      le-leb t.aru.0 most_number r.aru,
      le-leb t.earlier.0 most_number r.earlier,
      le-leb t.number.0 most_number r.number,
      le-leb t.broadcast most_broadcasts r.broadcast,
      le-leb t.stall most_stall r.stall,
      le-leb t.waited most_posts r.waited,
      le-leb t.size longest_token r.size,
    )

arus-reached : (t : Turn) (level : ℕ) → t.aru.0 ≤ level → t.earlier.0 ≤ level → arus_reached t level ≡ true
unfolding arus_reached
arus-reached t level a e = rw (le-leb t.aru.0 level a, le-leb t.earlier.0 level e)

module _ (l : Log) (t : Turn) where
  turn-good : turn_whole l t ≡ true → TurnGood l.ring.0 (ids l) l.level.0 t
  unfolding turn_whole arus_reached turn_unused_zero
  turn-good e =
      record {
        range = turn-range t (part e (λ (f : turn_in_range t ≡ false). rw f));
        aru = leb-true t.aru.0 l.level.0 (part e (λ (f : leb t.aru.0 l.level.0 ≡ false). simp (f, and-false)));
        earlier = leb-true t.earlier.0 l.level.0 (part e (λ (f : leb t.earlier.0 l.level.0 ≡ false). simp (f, and-false)));
        leave = part e (λ (f : resend_passes l.ring.0 (ids l) t ≡ false). simp (f, and-false));
        rest = part e (λ (f : all_zero (drop t.size t.token) ≡ false). simp (f, and-false));
      }

  good_turn : TurnGood l.ring.0 (ids l) l.level.0 t → turn_whole l t ≡ true
  unfolding turn_whole turn_unused_zero
  good_turn g = rw (turn-in-range t g.range, g.leave, arus-reached t l.level.0 g.aru g.earlier, g.rest)

-- ---- the record

-- one that is put together shows what its log holds and has not delivered
pub parts-show : (r : Record) (l : Log) (t : Turn) (p : Posts) → (with_parts r l t p).panel ≡ undelivered l
parts-show r l t p = refl

module _ (r : Record) where
  pub whole-good : whole r ≡ true → RecordGood r
  unfolding whole panel_right parts_whole posts_whole
  whole-good e =
      let log = part e (λ (f : log_whole r.own r.log ≡ false). simp (f, and-false)) in
      record {
        log = log-good r.log r.own log;
        turn = turn-good r.log r.turn (part e (λ (f : turn_whole r.log r.turn ≡ false). simp (f, and-false)));
        founded = log-founded r.log r.own log;
        posts = part e (λ (f : posts_in_range r.posts ≡ false). simp (f, and-false));
        posts-rest = part e (λ (f : posts_unused_zero r.posts ≡ false). simp (f, and-false));
        panel = eqb-true r.panel (undelivered r.log) (part e (λ (f : eqb r.panel (undelivered r.log) ≡ false). rw f));
      }

  pub good-whole : RecordGood r → whole r ≡ true
  unfolding whole panel_right parts_whole posts_whole
  good-whole g =
      rw (
        le-leb r.own most_id (own-most (ids r.log) r.own (foundable-facts (ids r.log) r.own r.log.ring.0 g.founded)),
        good-log r.log r.own g.log g.founded,
        good_turn r.log r.turn g.turn,
        g.posts,
        g.posts-rest,
        eq-eqb r.panel (undelivered r.log) g.panel,
      )
