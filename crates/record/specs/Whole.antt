-- When a record is whole: one definition for each clause of document 01's paragraph, in its order, and at the end the clauses of each
-- part: of the log, of the turn and of the posts. [document 01, The station record]
-- A list has any length, so the ranges ask for each array's own length too.
use Rattle.std.specs.Prelude.{ℕ, suc, ◌-◌, Bool, not, ◌&&◌, ◌||◌, List, length, get_or, drop, leb, eqb}
use Rattle.words.specs.Scan.{every, all_within, all_zero}
use Rattle.frames.specs.Number.{most_number, most_id}
use Rattle.frames.specs.Layout.{most_service, most_content, longest_token}
use Rattle.record.specs.Size.{most_members, most_held, most_posts, most_broadcasts, most_stall, held_contents, post_contents}
use Rattle.record.specs.Count.{every_from}
use Rattle.record.specs.Contents.{padding}
use Rattle.record.specs.Held.{in_use, holds, held_numbers}
use Rattle.record.specs.Turn.{may_resend, remembered}
use Rattle.record.specs.Panel.{undelivered}
use Rattle.record.specs.Members.{is_member, foundable}
use Rattle.record.specs.Ring.{current, ids, token_passes}
use Rattle.record.specs.declared.log.Held.{Held}
use Rattle.record.specs.declared.log.Log.{Log}
use Rattle.record.specs.declared.turn.Turn.{Turn}
use Rattle.record.specs.declared.posts.Posts.{Posts}
use Rattle.record.specs.declared.Record.{Record}

-- ---- fields in range

unfoldable pub held_in_range : Held → Bool
held_in_range h =
    eqb (length h.senders) most_held
    && eqb (length h.services) most_held
    && eqb (length h.lengths) most_held
    && eqb (length h.contents) held_contents
    && all_within 0 most_id h.senders
    && all_within 0 most_service h.services
    && all_within 0 most_content h.lengths

-- held numbers are 1 to 2,000,000,000
unfoldable pub numbers_in_range : Log → Bool
numbers_in_range l = all_within 1 most_number (held_numbers l)

unfoldable pub log_in_range : Log → Bool
log_in_range l =
    eqb (length l.members) most_members
    && leb l.count most_members
    && leb l.level.0 most_number
    && leb l.safe.0 most_number
    && leb l.delivered.0 most_number
    && held_in_range l.held
    && numbers_in_range l

unfoldable pub turn_in_range : Turn → Bool
turn_in_range t =
    eqb (length t.token) longest_token
    && leb t.aru.0 most_number
    && leb t.earlier.0 most_number
    && leb t.number.0 most_number
    && leb t.broadcast most_broadcasts
    && leb t.stall most_stall
    && leb t.waited most_posts
    && leb t.size longest_token

unfoldable pub posts_in_range : Posts → Bool
posts_in_range p =
    eqb (length p.services) most_posts
    && eqb (length p.lengths) most_posts
    && eqb (length p.contents) post_contents
    && leb p.count most_posts
    && all_within 0 most_service p.services
    && all_within 0 most_content p.lengths

-- ---- held senders members

unfoldable pub senders_are_members : List ℕ → List ℕ → Bool
senders_are_members members = every (λ x after. eqb x 0 || is_member members x)

-- ---- a token that may be resent is of kind 2 and passes 10 to 14

unfoldable pub resend_passes : ℕ → List ℕ → Turn → Bool
resend_passes ring members t = not (may_resend t) || token_passes ring members (remembered t)

-- ---- founding questions 3 to 6 hold: `foundable`

-- ---- safe mark ≤ delivered mark ≤ level

unfoldable pub marks_in_order : Log → Bool
marks_in_order l = leb l.safe.0 l.delivered.0 && leb l.delivered.0 l.level.0

-- ---- both aru ≤ level

unfoldable pub arus_reached : Turn → ℕ → Bool
arus_reached t level = leb t.aru.0 level && leb t.earlier.0 level

-- ---- numbers from safe mark + 1 to level are held; level + 1 isn't

unfoldable pub held_to_level : Log → Bool
held_to_level l = every_from (holds l) (suc l.safe.0) (l.level.0 - l.safe.0)

unfoldable pub next_not_held : Log → Bool
next_not_held l = not (holds l (suc l.level.0))

-- ---- a part not in use is zero

-- the bytes past each content's length
unfoldable pub contents_padded : List ℕ → List ℕ → Bool
contents_padded lengths contents = every_from (λ place. all_zero (padding lengths contents place)) 0 (length lengths)

-- a free place's service and length; its content is then zero too
unfoldable pub free_places_zero : Held → Bool
free_places_zero h = every_from (λ place. in_use h place || (eqb (get_or h.services place 0) 0 && eqb (get_or h.lengths place 0) 0)) 0 most_held

unfoldable pub log_unused_zero : Log → Bool
log_unused_zero l = all_zero (drop l.count l.members) && free_places_zero l.held && contents_padded l.held.lengths l.held.contents

unfoldable pub posts_unused_zero : Posts → Bool
posts_unused_zero p = all_zero (drop p.count p.services) && all_zero (drop p.count p.lengths) && contents_padded p.lengths p.contents

-- the bytes past the remembered token; all of them once its leave has ended
unfoldable pub turn_unused_zero : Turn → Bool
turn_unused_zero t = all_zero (drop t.size t.token)

-- ---- whole, part by part. That a held message's place follows from its number alone needs no clause: no number is stored (`place_of`)

-- the clauses of a log, in the record of the station with this id
unfoldable pub log_whole : ℕ → Log → Bool
log_whole own l =
    log_in_range l
    && senders_are_members (ids l) l.held.senders
    && foundable (ids l) own l.ring.0
    && marks_in_order l
    && held_to_level l
    && next_not_held l
    && log_unused_zero l

-- those of the turn, over that log
unfoldable pub turn_whole : Log → Turn → Bool
turn_whole l t = turn_in_range t && resend_passes l.ring.0 (ids l) t && arus_reached t l.level.0 && turn_unused_zero t

-- those of the waiting posts
unfoldable pub posts_whole : Posts → Bool
posts_whole p = posts_in_range p && posts_unused_zero p

-- the panel's count is that of the messages held and not delivered [document 02, Job 2]
unfoldable pub panel_right : Record → Bool
panel_right r = eqb r.panel (undelivered (current r))

-- whatever the panel's count is
unfoldable pub parts_whole : Record → Bool
parts_whole r = leb r.own most_id && log_whole r.own (current r) && turn_whole (current r) r.turn && posts_whole r.posts

unfoldable pub whole : Record → Bool
whole r = panel_right r && parts_whole r
