-- What fields in range tell, as facts about numbers: each array's length and each field's bound.
use Prim.Native.Nat.{ℕ, ◌≤◌}
use mathlib.Core.Path.{◌≡◌}
use mathlib.Core.Bool.{true, false, and-false}
use borrow.Author.Tests.{leb-true, eqb-true}
use lib.ListN.{length, get_or}
use lib.Dec.{leb, eqb}
use Rattle.words.specs.Scan.{all_within}
use Rattle.words.proofs.ScanLaws.{within-most}
use Rattle.frames.specs.Number.{most_number, most_id}
use Rattle.frames.specs.Layout.{most_service, most_content, longest_token}
use Rattle.frames.proofs.Facts.{part}
use Rattle.record.specs.Size.{most_members, most_held, most_posts, most_broadcasts, most_stall, held_contents, post_contents}
use Rattle.record.specs.Whole.{held_in_range, numbers_in_range, log_in_range, turn_in_range, posts_in_range}
use Rattle.record.specs.declared.log.Held.{Held}
use Rattle.record.specs.declared.log.Log.{Log}
use Rattle.record.specs.declared.turn.Turn.{Turn}
use Rattle.record.specs.declared.posts.Posts.{Posts}
use Rattle.record.proofs.Arrays.{HeldArrays, PostsArrays}

-- ---- the held messages

pub record HeldRange (h : Held) : Type 0 where
  pub arrays : HeldArrays h
  pub senders : (i : ℕ) → get_or h.senders i 0 ≤ most_id
  pub services : (i : ℕ) → get_or h.services i 0 ≤ most_service
  pub lengths : (i : ℕ) → get_or h.lengths i 0 ≤ most_content

pub held-range : (h : Held) → held_in_range h ≡ true → HeldRange h
unfolding held_in_range
held-range h e =
    record {
      arrays =
          record {
            senders = eqb-true (length h.senders) most_held (part e (λ (f : eqb (length h.senders) most_held ≡ false). rw f));
            services = eqb-true (length h.services) most_held (part e (λ (f : eqb (length h.services) most_held ≡ false). simp (f, and-false)));
            lengths = eqb-true (length h.lengths) most_held (part e (λ (f : eqb (length h.lengths) most_held ≡ false). simp (f, and-false)));
            contents = eqb-true (length h.contents) held_contents (part e (λ (f : eqb (length h.contents) held_contents ≡ false). simp (f, and-false)));
          };
      senders = within-most 0 most_id h.senders (part e (λ (f : all_within 0 most_id h.senders ≡ false). simp (f, and-false)));
      services = within-most 0 most_service h.services (part e (λ (f : all_within 0 most_service h.services ≡ false). simp (f, and-false)));
      lengths = within-most 0 most_content h.lengths (part e (λ (f : all_within 0 most_content h.lengths ≡ false). simp (f, and-false)));
    }

-- ---- the log

pub record LogRange (l : Log) : Type 0 where
  pub members-long : length l.members ≡ most_members
  pub count : l.count ≤ most_members
  pub level : l.level.0 ≤ most_number
  pub safe : l.safe.0 ≤ most_number
  pub delivered : l.delivered.0 ≤ most_number
  pub held : HeldRange l.held
  pub numbers : numbers_in_range l ≡ true

pub log-range : (l : Log) → log_in_range l ≡ true → LogRange l
unfolding log_in_range
log-range l e =
    record {
      members-long = eqb-true (length l.members) most_members (part e (λ (f : eqb (length l.members) most_members ≡ false). rw f));
      count = leb-true l.count most_members (part e (λ (f : leb l.count most_members ≡ false). simp (f, and-false)));
      level = leb-true l.level.0 most_number (part e (λ (f : leb l.level.0 most_number ≡ false). simp (f, and-false)));
      safe = leb-true l.safe.0 most_number (part e (λ (f : leb l.safe.0 most_number ≡ false). simp (f, and-false)));
      delivered = leb-true l.delivered.0 most_number (part e (λ (f : leb l.delivered.0 most_number ≡ false). simp (f, and-false)));
      held = held-range l.held (part e (λ (f : held_in_range l.held ≡ false). simp (f, and-false)));
      numbers = part e (λ (f : numbers_in_range l ≡ false). simp (f, and-false));
    }

-- ---- the turn

pub record TurnRange (t : Turn) : Type 0 where
  pub token-long : length t.token ≡ longest_token
  pub aru : t.aru.0 ≤ most_number
  pub earlier : t.earlier.0 ≤ most_number
  pub number : t.number.0 ≤ most_number
  pub broadcast : t.broadcast ≤ most_broadcasts
  pub stall : t.stall ≤ most_stall
  pub waited : t.waited ≤ most_posts
  pub size : t.size ≤ longest_token

pub turn-range : (t : Turn) → turn_in_range t ≡ true → TurnRange t
unfolding turn_in_range
turn-range t e =
    record {
      token-long = eqb-true (length t.token) longest_token (part e (λ (f : eqb (length t.token) longest_token ≡ false). rw f));
      aru = leb-true t.aru.0 most_number (part e (λ (f : leb t.aru.0 most_number ≡ false). simp (f, and-false)));
      earlier = leb-true t.earlier.0 most_number (part e (λ (f : leb t.earlier.0 most_number ≡ false). simp (f, and-false)));
      number = leb-true t.number.0 most_number (part e (λ (f : leb t.number.0 most_number ≡ false). simp (f, and-false)));
      broadcast = leb-true t.broadcast most_broadcasts (part e (λ (f : leb t.broadcast most_broadcasts ≡ false). simp (f, and-false)));
      stall = leb-true t.stall most_stall (part e (λ (f : leb t.stall most_stall ≡ false). simp (f, and-false)));
      waited = leb-true t.waited most_posts (part e (λ (f : leb t.waited most_posts ≡ false). simp (f, and-false)));
      size = leb-true t.size longest_token (part e (λ (f : leb t.size longest_token ≡ false). simp (f, and-false)));
    }

-- ---- the waiting posts

pub record PostsRange (p : Posts) : Type 0 where
  pub arrays : PostsArrays p
  pub count : p.count ≤ most_posts
  pub services : (i : ℕ) → get_or p.services i 0 ≤ most_service
  pub lengths : (i : ℕ) → get_or p.lengths i 0 ≤ most_content

pub posts-range : (p : Posts) → posts_in_range p ≡ true → PostsRange p
unfolding posts_in_range
posts-range p e =
    record {
      arrays =
          record {
            services = eqb-true (length p.services) most_posts (part e (λ (f : eqb (length p.services) most_posts ≡ false). rw f));
            lengths = eqb-true (length p.lengths) most_posts (part e (λ (f : eqb (length p.lengths) most_posts ≡ false). simp (f, and-false)));
            contents = eqb-true (length p.contents) post_contents (part e (λ (f : eqb (length p.contents) post_contents ≡ false). simp (f, and-false)));
          };
      count = leb-true p.count most_posts (part e (λ (f : leb p.count most_posts ≡ false). simp (f, and-false)));
      services = within-most 0 most_service p.services (part e (λ (f : all_within 0 most_service p.services ≡ false). simp (f, and-false)));
      lengths = within-most 0 most_content p.lengths (part e (λ (f : all_within 0 most_content p.lengths ≡ false). simp (f, and-false)));
    }
