-- A token is accepted: steps 1 to 9. [document 01, A token is accepted; the paper's Figure 3, 'regular token received']
-- A visit is a record and the token that arrives. Every quantity is a function of the visit; a prime marks the value after it. In square
-- brackets stands the paper's name. 'Not below 0' needs no word: `a - b` is 0 where b is the larger.
use Rattle.std.specs.Prelude.{ℕ, suc, ◌+◌, ◌-◌, ◌*◌, ◌/◌, min, max, Bool, true, false, not, ◌&&◌, ◌||◌, cond, List, [], ◌∷◌, ◌++◌, map, length, get_or, take, replicate, ltb, eqb, Option, Some, None}
use Rattle.words.specs.Scan.{lacks}
use Rattle.frames.specs.Number.{most_number}
use Rattle.frames.specs.Layout.{most_round, most_backlog, most_requests, longest_token}
use Rattle.frames.specs.Token.{numbered, request_numbers, token_bytes}
use Rattle.frames.specs.declared.token.Token.{Token}
use Rattle.record.specs.Size.{most_held, most_stall}
use Rattle.record.specs.Count.{numbers_after, those}
use Rattle.record.specs.Parts.{with_parts}
use Rattle.record.specs.Held.{Entry, holds, stored, let_go}
use Rattle.record.specs.Posts.{Post, waiting, taken}
use Rattle.record.specs.Members.{representative}
use Rattle.record.specs.Ring.{current, ids}
use Rattle.record.specs.declared.log.Log.{Log}
use Rattle.record.specs.declared.turn.Turn.{Turn}
use Rattle.record.specs.declared.posts.Posts.{Posts}
use Rattle.record.specs.declared.Record.{Record}
use Rattle.visit.specs.Level.{raised}
use Rattle.visit.specs.Deliver.{ring_header, frame_of, joined, handed_out, delivered}
use Rattle.visit.specs.declared.visiting.Visited.{Visited}

pub record Visit : Type 0 where
  pub rec : Record
  pub token : Token

-- what the station has of this ring, what it kept from its last visit, and the posts that wait
abbrev pub log : Visit → Log
log v = current v.rec

abbrev pub turn : Visit → Turn
turn v = v.rec.turn

abbrev pub posts : Visit → Posts
posts v = v.rec.posts

abbrev pub own : Visit → ℕ
own v = v.rec.own

-- ---- 1. Others' count, others' backlog and the allowance: flow control, from the token's round count [fcc] and its backlog [document 02, Job 1]

-- new messages of one visit [max_messages]
abbrev pub most_new : ℕ
most_new = 8

-- the broadcasts of one round that leave nothing for new messages [window_size]
abbrev pub most_in_round : ℕ
most_in_round = 24

unfoldable pub others : Visit → ℕ
others v = v.token.round - (turn v).broadcast

-- what the round leaves
unfoldable pub round_allowance : Visit → ℕ
round_allowance v = min most_new (most_in_round - others v)

-- the posts that wait when the token comes [my_tbl]
abbrev pub waits : Visit → ℕ
waits v = (posts v).count

-- what waited at the others when each last forwarded the token [backlog - my_pbl]
unfoldable pub others_backlog : Visit → ℕ
others_backlog v = v.token.backlog - (turn v).waited

-- of the 24, the part that waits here of all that waits, rounded down; 1 if that gives 0 [section 8.2]
unfoldable pub share : ℕ → ℕ → ℕ
share others own = max 1 (most_in_round * own / (others + own))

-- if a post waits, the share limits it further
unfoldable pub allowance : Visit → ℕ
allowance v = cond (eqb (waits v) 0) (round_allowance v) (min (round_allowance v) (share (others_backlog v) (waits v)))

-- ---- 2. Requests [rtr] whose message is held are broadcast, and struck off

unfoldable pub requests : Visit → List ℕ
requests v = take v.token.count (request_numbers v.token)

unfoldable pub repeats : Visit → List ℕ
repeats v = those (holds (log v)) (requests v)

unfoldable pub unanswered : Visit → List ℕ
unanswered v = those (λ n. not (holds (log v) n)) (requests v)

-- ---- 3. New messages, oldest post first

-- what the allowance less the repeats, the posts, safe mark + 32 and 2,000,000,000 permit
unfoldable pub new_count : Visit → ℕ
new_count v =
    min (allowance v - length (repeats v))
    (min (waits v)
    (min ((log v).safe.0 + most_held - v.token.highest.0)
    (most_number - v.token.highest.0)))

-- a post as a message of one's own
abbrev pub sent_by : ℕ → Post → Entry
sent_by own p = record { sender = own; service = p.service; content = p.content }

-- each takes the highest number + 1 and is held
unfoldable pub with_sent : Log → ℕ → ℕ → List Post → Log
with_sent l own highest [] = l
with_sent l own highest (p ∷ ps) = with_sent (stored l (suc highest) (sent_by own p)) own (suc highest) ps

-- the numbers of the new messages
unfoldable pub new_numbers : Visit → List ℕ
new_numbers v = numbers_after v.token.highest.0 (new_count v)

-- the highest number [seq]
unfoldable pub highest' : Visit → ℕ
highest' v = v.token.highest.0 + new_count v

-- what is held now; the level rises
unfoldable pub log_now : Visit → Log
log_now v = raised (with_sent (log v) (own v) v.token.highest.0 (take (new_count v) (waiting (posts v))))

-- [my_aru]
abbrev pub level' : Visit → ℕ
level' v = (log_now v).level.0

-- ---- 4. If level < aru, or the blocker is oneself or nobody: aru = level

abbrev pub is_nobody : Option ℕ → Bool
is_nobody None = true
is_nobody (Some id) = false

abbrev pub is_own : ℕ → Option ℕ → Bool
is_own own None = false
is_own own (Some id) = eqb id own

abbrev pub own_or_nobody : ℕ → Option ℕ → Bool
own_or_nobody own blocker = is_nobody blocker || is_own own blocker

unfoldable pub sets_aru : Visit → Bool
sets_aru v = ltb (level' v) v.token.aru.0 || own_or_nobody (own v) v.token.blocker

-- [aru]
unfoldable pub aru' : Visit → ℕ
aru' v = cond (sets_aru v) (level' v) v.token.aru.0

-- [aru_id]
unfoldable pub blocker' : Visit → Option ℕ
blocker' v = cond (sets_aru v) (cond (eqb (level' v) (highest' v)) None (Some (own v))) v.token.blocker

-- ---- 5. The stall count, and the notice 'deaf'

-- [fail_to_rcv_const]
abbrev pub deaf_above : ℕ
deaf_above = 10

-- [my_aru_count]
unfoldable pub stall' : Visit → ℕ
stall' v = cond (eqb (aru' v) (turn v).aru.0 && not (is_nobody (blocker' v))) (min ((turn v).stall + 1) most_stall) 0

-- the id in the notice, or 0
unfoldable pub deaf : Visit → ℕ
deaf v = cond (ltb deaf_above (stall' v) && is_own (own v) (blocker' v)) (own v) 0

-- ---- 6. The safe mark: the smaller of the last two forwarded aru, this one included; it never falls

unfoldable pub safe' : Visit → ℕ
safe' v = max (log v).safe.0 (min (turn v).aru.0 (aru' v))

-- ---- 7. Missing numbers are added to the requests, lowest first, up to 16

-- from level + 1 to the smaller of highest and safe mark + 32, neither held nor listed
unfoldable pub missing : Visit → List ℕ
missing v =
    those (λ n. not (holds (log_now v) n) && lacks (unanswered v) n)
    (numbers_after (level' v) (min (highest' v) (safe' v + most_held) - level' v))

-- [rtr]
unfoldable pub requests' : Visit → List ℕ
requests' v = take most_requests (unanswered v ++ missing v)

-- ---- 8. The token that is written

-- repeats and new messages of this visit [my_trc]
unfoldable pub broadcasts : Visit → ℕ
broadcasts v = length (repeats v) + new_count v

-- [fcc]
unfoldable pub round' : Visit → ℕ
round' v = min (others v + broadcasts v) most_round

-- the posts that wait afterwards: the station's own part of the backlog
unfoldable pub waits' : Visit → ℕ
waits' v = waits v - new_count v

unfoldable pub backlog' : Visit → ℕ
backlog' v = min (others_backlog v + waits' v) most_backlog

-- the member after `own` in circulation order; after the last comes the first
unfoldable pub next_in : ℕ → List ℕ → ℕ → ℕ
next_in first [] own = first
next_in first (id ∷ ids) own = cond (eqb id own) (get_or ids 0 first) (next_in first ids own)

abbrev pub next_member : List ℕ → ℕ → ℕ
next_member ids own = next_in (representative ids) ids own

-- its number is the paper's token_seq
unfoldable pub token' : Visit → Token
token' v =
    record {
      header = ring_header (log v);
      addressee = next_member (ids (log v)) (own v);
      number = record { 0 = v.token.number.0 + 1 };
      highest = record { 0 = highest' v };
      aru = record { 0 = aru' v };
      blocker = blocker' v;
      round = round' v;
      backlog = backlog' v;
      count = length (requests' v);
      requests = numbered (requests' v ++ replicate (most_requests - length (requests' v)) 0);
    }

-- its number is remembered [my_token_seq], and it may be resent. `earlier` is the aru forwarded before this one: document 01 lists it, question 2 asks about it, no step reads it
unfoldable pub turn' : Visit → Turn
turn' v =
    record {
      aru = record { 0 = aru' v };
      earlier = (turn v).aru;
      number = record { 0 = v.token.number.0 + 1 };
      broadcast = broadcasts v;
      stall = stall' v;
      waited = waits' v;
      size = length (token_bytes (token' v));
      token = token_bytes (token' v) ++ replicate (longest_token - length (token_bytes (token' v))) 0;
    }

-- ---- 9. Deliver, then let go of everything up to the safe mark

unfoldable pub log' : Visit → Log
log' v = let_go (delivered (log_now v) (safe' v)) (safe' v)

-- a broadcast post waits no longer
unfoldable pub rec' : Visit → Record
rec' v = with_parts v.rec (log' v) (turn' v) (taken (posts v) (new_count v))

-- ---- written out: repeats, new messages, token

unfoldable pub written : Visit → List (List ℕ)
written v = map (frame_of (log v)) (repeats v) ++ map (frame_of (log_now v)) (new_numbers v) ++ (token_bytes (token' v) ∷ [])

-- and handed out
abbrev pub handed : Visit → List ℕ
handed v = handed_out (log_now v) (safe' v)

-- how many bytes are written and delivered, and the id in the notice 'deaf', or 0
abbrev pub visited_of : Visit → Visited
visited_of v = record { frames = length (joined (written v)); deliveries = length (handed v); deaf = deaf v }
