-- A record whose fields fit their bytes; a whole record's do.
use Prim.Native.Nat.{ℕ, ◌^◌, ◌<◌, ◌≤◌}
use mathlib.Core.Path.{◌≡◌}
use mathlib.Core.Bool.{true, false, and-false}
use mathlib.Core.List.{List}
use borrow.Author.Tests.{leb-true, eqb-true}
use native.Mathlib.Omega.{arith}
use lib.ListN.{length, get_or, drop, take-append-drop}
use lib.Dec.{leb, eqb}
use Rattle.words.specs.Scan.{all_within, all_zero}
use Rattle.words.proofs.ScanLaws.{within-most}
use Rattle.frames.specs.Number.{most_number, most_id}
use Rattle.frames.specs.Layout.{longest_token}
use Rattle.frames.proofs.Facts.{part}
use Rattle.record.specs.Size.{most_members}
use Rattle.record.specs.Members.{ids_follow, foundable}
use Rattle.record.specs.Ring.{ids}
use Rattle.record.specs.Whole.{log_in_range, turn_in_range, posts_in_range, log_unused_zero, log_whole, turn_whole, posts_whole, panel_right, parts_whole, whole}
use Rattle.record.specs.Panel.{undelivered}
use Rattle.record.proofs.TallyLaws.{undelivered-most}
use Rattle.record.specs.declared.log.Held.{Held}
use Rattle.record.specs.declared.log.Log.{Log}
use Rattle.record.specs.declared.turn.Turn.{Turn}
use Rattle.record.specs.declared.posts.Posts.{Posts}
use Rattle.record.specs.declared.Record.{Record}
use Rattle.record.proofs.ListLaws.{most-append}
use Rattle.record.proofs.RangeFacts.{HeldRange, LogRange, TurnRange, PostsRange, log-range, turn-range, posts-range}
use Rattle.record.proofs.Arrays.{HeldArrays, PostsArrays, RecordArrays}

-- every element is a word of w bytes
abbrev pub Words : ℕ → List ℕ → Type 0
Words w xs = (i : ℕ) → get_or xs i 0 < 256 ^ w

pub record HeldFits (h : Held) : Type 0 where
  pub arrays : HeldArrays h
  pub senders : Words 2 h.senders
  pub services : Words 2 h.services

pub record LogFits (l : Log) : Type 0 where
  pub ring : l.ring.0 < 256 ^ 4
  pub count : l.count < 256 ^ 1
  pub places : length l.members ≡ most_members
  pub members : Words 2 l.members
  pub level : l.level.0 < 256 ^ 4
  pub safe : l.safe.0 < 256 ^ 4
  pub delivered : l.delivered.0 < 256 ^ 4
  pub held : HeldFits l.held

pub record TurnFits (t : Turn) : Type 0 where
  pub aru : t.aru.0 < 256 ^ 4
  pub earlier : t.earlier.0 < 256 ^ 4
  pub number : t.number.0 < 256 ^ 4
  pub broadcast : t.broadcast < 256 ^ 1
  pub stall : t.stall < 256 ^ 1
  pub waited : t.waited < 256 ^ 1
  pub size : t.size < 256 ^ 1
  pub token : length t.token ≡ longest_token

pub record PostsFits (p : Posts) : Type 0 where
  pub count : p.count < 256 ^ 1
  pub arrays : PostsArrays p
  pub services : Words 2 p.services

pub record RecordFits (r : Record) : Type 0 where
  pub own : r.own < 256 ^ 2
  pub panel : r.panel < 256 ^ 1
  pub log : LogFits r.log
  pub turn : TurnFits r.turn
  pub posts : PostsFits r.posts

-- ---- fields in range fit

held_fits : (h : Held) → HeldRange h → HeldFits h
held_fits h g =
    record {
      arrays = g.arrays;
      senders = λ i. omega (arith, g.senders i);
      services = λ i. omega (arith, g.services i);
    }

log-fits : (l : Log) → LogRange l → l.ring.0 ≤ most_number → ((i : ℕ) → get_or l.members i 0 ≤ most_id) → LogFits l
log-fits l g ring members =
    record {
      ring = omega arith;
      count = omega arith;
      places = g.members-long;
      members = λ i. omega (arith, members i);
      level = omega arith;
      safe = omega arith;
      delivered = omega arith;
      held = held_fits l.held g.held;
    }

turn-fits : (t : Turn) → TurnRange t → TurnFits t
turn-fits t g =
    record {
      aru = omega arith;
      earlier = omega arith;
      number = omega arith;
      broadcast = omega arith;
      stall = omega arith;
      waited = omega arith;
      size = omega arith;
      token = g.token-long;
    }

posts-fits : (p : Posts) → PostsRange p → PostsFits p
posts-fits p g =
    record {
      count = omega arith;
      arrays = g.arrays;
      services = λ i. omega (arith, g.services i);
    }

-- ---- the ring number and the members: the founding questions, and zeros past the count

members-most : (l : Log) → all_within 1 most_id (ids l) ≡ true → all_zero (drop l.count l.members) ≡ true → (i : ℕ) → get_or l.members i 0 ≤ most_id
members-most l first rest =
    let most = within-most 1 most_id (ids l) first in
    let zeros : (i : ℕ) → get_or (drop l.count l.members) i 0 ≤ most_id = λ i. omega (arith, within-most 0 0 (drop l.count l.members) rest i) in
    rw take-append-drop at (most-append most_id (ids l) (drop l.count l.members) most zeros)

pub whole-fits : (r : Record) → whole r ≡ true → RecordFits r
unfolding whole panel_right parts_whole log_whole turn_whole posts_whole foundable ids_follow log_unused_zero
whole-fits r e =
    let l = r.log in
    let own : r.own ≤ most_id = leb-true r.own most_id (part e (λ (f : leb r.own most_id ≡ false). simp (f, and-false))) in
    let log = log-range l (part e (λ (f : log_in_range l ≡ false). simp (f, and-false))) in
    let turn = turn-range r.turn (part e (λ (f : turn_in_range r.turn ≡ false). simp (f, and-false))) in
    let posts = posts-range r.posts (part e (λ (f : posts_in_range r.posts ≡ false). simp (f, and-false))) in
    let ring : l.ring.0 ≤ most_number = leb-true l.ring.0 most_number (part e (λ (f : leb l.ring.0 most_number ≡ false). simp (f, and-false))) in
    let first : all_within 1 most_id (ids l) ≡ true = part e (λ (f : all_within 1 most_id (ids l) ≡ false). simp (f, and-false)) in
    let rest : all_zero (drop l.count l.members) ≡ true = part e (λ (f : all_zero (drop l.count l.members) ≡ false). simp (f, and-false)) in
    let panel : r.panel ≡ undelivered l = eqb-true r.panel (undelivered l) (part e (λ (f : eqb r.panel (undelivered l) ≡ false). rw f)) in
    record {
      own = omega (arith, own);
      panel = omega (arith, panel, undelivered-most l);
      log = log-fits l log ring (members-most l first rest);
      turn = turn-fits r.turn turn;
      posts = posts-fits r.posts posts;
    }

-- ---- arrays of the lengths that the sizes ask for

pub record-arrays : (r : Record) → RecordFits r → RecordArrays r
record-arrays r f =
    record {
      log = record { members = f.log.places; held = f.log.held.arrays };
      token = f.turn.token;
      posts = f.posts.arrays;
    }
