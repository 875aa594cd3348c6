-- Trials of arrival; the specification's own are marked by a star. A record or reply that has a name is computed once. [document 01, Trials]
use Rattle.std.specs.Prelude.{ℕ, List, [], ◌∷◌, ◌++◌, length, set, take, Some, None}
use Rattle.frames.specs.trials.Trials.{from1to}
use Rattle.record.specs.Held.{holds}
use Rattle.record.specs.Whole.{whole}
use Rattle.record.specs.Fresh.{fresh}
use Rattle.record.specs.declared.Record.{Record}
use Rattle.station.specs.Reply.{Reply}
use Rattle.visit.specs.Deliver.{entry_of}
use Rattle.station.specs.Post.{posted}
use Rattle.station.specs.Resend.{resent}
use Rattle.station.specs.Arrive.{arrived}
use Rattle.visit.specs.trials.Sample.{Trial, row, yes, row_of, members, station, reached_with, reached_to, safe_to, turn_with, level7, level10}
use Rattle.visit.specs.trials.Marks.{marking}
use Rattle.station.specs.trials.Sample.{refusal, outcome, bytes, loaded_with, message_frame, token_frame, arrives, heard, visited, frames_count, frame_at, next_left, aru_left, requests_left, counts_left, stall_left, marks}

abbrev pub level31 : Record
level31 = reached_to 31

abbrev pub level32 : Record
level32 = reached_to 32

abbrev pub samples : List Trial
samples =
    -- such records are whole
    row (yes (whole level7)) 1
    ∷ row (yes (whole level10)) 1
    ∷ row (yes (whole level32)) 1
    ∷ []

-- ---- a message arrives

-- message 32 is held, with a content of one byte
abbrev pub having32 : Record
having32 = (heard station 32 0 (bytes 1)).rec

-- safe mark 10, nothing held
abbrev pub safe10 : Record
safe10 = safe_to 10

abbrev pub messages : List Trial
messages =
    -- * message 32: kept. 33: ahead. 32 again: had
    row (outcome (heard station 32 0 [])) 3
    ∷ row (outcome (heard station 33 0 [])) 5
    ∷ row (outcome (heard having32 32 0 (bytes 1))) 4
    -- the first copy stays
    ∷ row (outcome (heard having32 32 1 (bytes 2))) 4
    ∷ row_of (entry_of (heard having32 32 1 (bytes 2)).rec.log 32).content (bytes 1)
    -- the same with all before it held: the level rises, and all are handed out
    ∷ row (outcome (heard level31 32 0 [])) 3
    ∷ row_of (marks (heard level31 32 0 [])) (32 ∷ 0 ∷ 32 ∷ [])
    ∷ row (length (heard level31 32 0 []).deliveries) 704
    ∷ row (outcome (heard level32 33 0 [])) 5
    -- one that is ahead takes no place: 33 would have that of 1
    ∷ row (yes (holds (heard station 33 0 []).rec.log 1)) 0
    -- the level waits for 1, then rises as far as it can
    ∷ row_of (marks (heard station 2 0 [])) (0 ∷ 0 ∷ 0 ∷ [])
    ∷ row_of (marks (heard (heard station 2 0 []).rec 1 0 [])) (2 ∷ 0 ∷ 2 ∷ [])
    -- at the safe mark: had. Above safe mark + 32: ahead
    ∷ row (outcome (heard safe10 10 0 [])) 4
    ∷ row (outcome (heard safe10 42 0 [])) 3
    ∷ row (outcome (heard safe10 43 0 [])) 5
    ∷ []

-- ---- a token is accepted

-- aru and blocker, in the token that is written
abbrev pub arus : List Trial
arus =
    -- * highest 10, aru 10, nobody; level 7: leaves 7, blocker 7
    row_of (aru_left (visited level7 4 10 10 None 0 [])) (7 ∷ 7 ∷ [])
    -- * highest 10, aru 5, blocker 9; level 7: leaves 5, blocker 9
    ∷ row_of (aru_left (visited level7 4 10 5 (Some 9) 0 [])) (5 ∷ 9 ∷ [])
    -- * highest 10, aru 5, blocker 7; level 10: leaves 10, nobody
    ∷ row_of (aru_left (visited level10 4 10 5 (Some 7) 0 [])) (10 ∷ 0 ∷ [])
    -- the level below the aru, with another as blocker: leaves the level, blocker 7
    ∷ row_of (aru_left (visited level7 4 10 9 (Some 9) 0 [])) (7 ∷ 7 ∷ [])
    ∷ []

-- the station has forwarded 10, in token 5
abbrev pub forwarded : Reply
forwarded = visited level10 4 10 10 None 0 []

abbrev pub after10 : Record
after10 = forwarded.rec

-- then 7
abbrev pub then7 : Reply
then7 = visited after10 7 10 7 (Some 9) 0 []

abbrev pub forwarding : List Trial
forwarding =
    -- to the next member, with the next number; after the last member comes the first
    row (outcome forwarded) 6
    ∷ row_of (next_left forwarded) (9 ∷ 5 ∷ [])
    ∷ row_of (next_left (arrives (fresh members 9 4) (token_frame 4 9 4 0 0 None 0 []))) (3 ∷ 5 ∷ [])
    -- after one forwarding nothing is safe; all is delivered
    ∷ row_of (marks forwarded) (10 ∷ 0 ∷ 10 ∷ [])
    -- * forwarded 10, then 7: safe mark 7
    ∷ row_of (marks then7) (10 ∷ 7 ∷ 10 ∷ [])
    -- it never falls
    ∷ row_of (marks (visited then7.rec 10 10 5 (Some 9) 0 [])) (10 ∷ 7 ∷ 10 ∷ [])
    -- everything up to it is let go
    ∷ row (yes (holds then7.rec.log 7)) 0
    ∷ row (yes (holds then7.rec.log 8)) 1
    ∷ []

-- round count 30, own last 10, three repeats, ten posts
abbrev pub busy : Reply
busy = visited (loaded_with 10 (reached_with 10 (turn_with 0 10 0))) 4 10 10 None 30 (3 ∷ 1 ∷ 2 ∷ [])

-- ten posts wait, at level 10
abbrev pub loaded : Record
loaded = loaded_with 10 level10

abbrev pub flow : List Trial
flow =
    -- * round count 30, own last 10, three repeats, many posts: one new, leaves 24
    row_of (counts_left busy) (5 ∷ 11 ∷ 24 ∷ 9 ∷ [])
    -- written out: repeats in the order of the requests, the new message, the token
    ∷ row_of (frame_at busy 0) (message_frame 4 3 3 0 [])
    ∷ row_of (frame_at busy 1) (message_frame 4 3 1 0 [])
    ∷ row_of (frame_at busy 2) (message_frame 4 3 2 0 [])
    ∷ row_of (frame_at busy 3) (message_frame 4 7 11 0 (bytes 1))
    -- its own count of broadcasts is remembered
    ∷ row busy.rec.turn.broadcast 4
    -- * round count 24, own last 0: no new message
    ∷ row_of (counts_left (visited loaded 4 10 10 None 24 [])) (1 ∷ 10 ∷ 24 ∷ 10 ∷ [])
    -- 8 new at most; safe mark + 32; 2,000,000,000; the posts
    ∷ row_of (counts_left (visited loaded 4 10 10 None 0 [])) (9 ∷ 18 ∷ 8 ∷ 2 ∷ [])
    ∷ row_of (counts_left (visited (loaded_with 10 level31) 4 31 31 None 0 [])) (2 ∷ 32 ∷ 1 ∷ 9 ∷ [])
    ∷ row_of (counts_left (visited (loaded_with 2 (safe_to 1999999999)) 4 1999999999 1999999999 None 0 [])) (2 ∷ 2000000000 ∷ 1 ∷ 1 ∷ [])
    ∷ row_of (counts_left (visited (loaded_with 2 level10) 4 10 10 None 0 [])) (3 ∷ 12 ∷ 2 ∷ 0 ∷ [])
    ∷ []

-- the size of the frame in which a content of n bytes is broadcast
abbrev pub broadcast_size : ℕ → ℕ
broadcast_size n = length (frame_at (visited (posted station 0 (bytes n)).rec 4 0 0 None 0 []) 0)

abbrev pub contents : List Trial
contents =
    -- * content 0: frame of 22 bytes. 64: 86 bytes. 65: 7
    row (broadcast_size 0) 22
    ∷ row (broadcast_size 64) 86
    ∷ row (refusal (posted station 0 (bytes 65))) 7
    ∷ []

-- level 7, aru 7 forwarded, this stall count
abbrev pub stalled : ℕ → Record
stalled count = reached_with 7 (turn_with 7 0 count)

abbrev pub stalled9 : Record
stalled9 = stalled 9

abbrev pub stalled10 : Record
stalled10 = stalled 10

abbrev pub stalling : List Trial
stalling =
    -- above 10 with oneself as blocker: the notice 'deaf'
    row_of (stall_left (visited stalled10 4 10 7 (Some 7) 0 [])) (7 ∷ 11 ∷ [])
    ∷ row_of (stall_left (visited stalled9 4 10 7 (Some 7) 0 [])) (0 ∷ 10 ∷ [])
    -- another is the blocker
    ∷ row_of (stall_left (visited stalled10 4 10 7 (Some 9) 0 [])) (0 ∷ 11 ∷ [])
    -- at most 255; 0 with another aru, or with nobody
    ∷ row_of (stall_left (visited (stalled 255) 4 10 7 (Some 7) 0 [])) (7 ∷ 255 ∷ [])
    ∷ row_of (stall_left (visited stalled10 4 10 5 (Some 9) 0 [])) (0 ∷ 0 ∷ [])
    ∷ row_of (stall_left (visited stalled10 4 7 7 None 0 [])) (0 ∷ 0 ∷ [])
    ∷ []

-- 9 is not held, 5 is
abbrev pub asked : Reply
asked = visited level7 4 10 7 (Some 9) 0 (9 ∷ 5 ∷ [])

abbrev pub requesting : List Trial
requesting =
    -- level 7 of highest 10 asks for 8, 9 and 10
    row_of (requests_left (visited level7 4 10 10 None 0 [])) (8 ∷ 9 ∷ 10 ∷ [])
    -- a request whose message is held is struck off, and written first; one already listed is not added
    ∷ row_of (frame_at asked 0) (message_frame 4 3 5 0 [])
    ∷ row (frames_count asked) 2
    ∷ row_of (requests_left asked) (9 ∷ 8 ∷ 10 ∷ [])
    -- sixteen at most, and none above safe mark + 32
    ∷ row_of (requests_left (visited station 4 40 40 None 0 [])) (from1to 16)
    ∷ row_of (requests_left (visited (reached_to 30) 4 40 40 None 0 [])) (31 ∷ 32 ∷ [])
    ∷ []

-- ---- safe delivery: message 1 is safe, message 2 agreed

abbrev pub heard1 : Reply
heard1 = heard station 1 1 (bytes 2)

abbrev pub heard2 : Reply
heard2 = heard heard1.rec 2 0 []

-- two visits, both with aru 2
abbrev pub once : Reply
once = visited heard2.rec 4 2 2 None 0 []

abbrev pub twice : Reply
twice = visited once.rec 7 2 2 None 0 []

abbrev pub delivering : List Trial
delivering =
    -- not on arrival, and the one behind it waits too
    row (outcome heard1) 3
    ∷ row (length heard1.deliveries) 0
    ∷ row (length heard2.deliveries) 0
    ∷ row_of (marks heard2) (2 ∷ 0 ∷ 0 ∷ [])
    -- not after one forwarding
    ∷ row (length once.deliveries) 0
    -- when the safe mark reaches it, both in order
    ∷ row_of twice.deliveries (message_frame 4 3 1 1 (bytes 2) ++ message_frame 4 3 2 0 [])
    ∷ row_of (marks twice) (2 ∷ 2 ∷ 2 ∷ [])
    -- let go, and had
    ∷ row (outcome (heard twice.rec 1 1 (bytes 2))) 4
    ∷ []

-- ---- questions at the door

-- the token that `forwarded` accepted
abbrev pub token4 : List ℕ
token4 = token_frame 4 7 4 10 10 None 0 []

abbrev pub door : List Trial
door =
    -- each buffer one byte short
    row (refusal (arrived level10 token4 1471 2752)) 1
    ∷ row (refusal (arrived level10 token4 1472 2751)) 1
    ∷ row (outcome (arrived level10 token4 1472 2752)) 6
    -- not whole: founded by one alone; an aru above the level
    ∷ row (refusal (arrives (fresh (7 ∷ []) 7 4) [])) 2
    ∷ row (refusal (arrives (reached_with 7 (turn_with 8 0 0)) token4)) 2
    -- the reader's
    ∷ row (refusal (arrives level10 (take 31 token4))) 10
    ∷ row (refusal (arrives level10 (set token4 2 3))) 11
    ∷ row (refusal (visited level10 4 10 10 None 129 [])) 12
    -- another ring's number, another representative
    ∷ row (refusal (arrives level10 (token_frame 5 7 4 10 10 None 0 []))) 13
    ∷ row (refusal (arrives level10 (set token4 8 7))) 13
    ∷ row (refusal (arrives level10 (message_frame 5 3 11 0 []))) 13
    -- sender, addressee, blocker
    ∷ row (refusal (arrives level10 (message_frame 4 8 11 0 []))) 14
    ∷ row (refusal (arrives level10 (token_frame 4 8 4 10 10 None 0 []))) 14
    ∷ row (refusal (visited level10 4 10 5 (Some 8) 0 [])) 14
    -- another addressee
    ∷ row (refusal (arrives level10 (token_frame 4 9 4 10 10 None 0 []))) 15
    -- a token repeated: 16; the one forwarded too, but not the next
    ∷ row (refusal (arrives after10 token4)) 16
    ∷ row (refusal (visited after10 5 10 10 None 0 [])) 16
    ∷ row (outcome (visited after10 6 10 10 None 0 [])) 6
    -- token 2,000,000,000: 17; the one before is the last
    ∷ row (refusal (visited level10 2000000000 10 10 None 0 [])) 17
    ∷ row_of (next_left (visited level10 1999999999 10 10 None 0 [])) (9 ∷ 2000000000 ∷ [])
    -- highest below the level, and below a number held
    ∷ row (refusal (visited level10 4 9 9 None 0 [])) 18
    ∷ row (refusal (visited having32 4 31 0 (Some 3) 0 [])) 18
    ∷ row (outcome (visited having32 4 32 0 (Some 3) 0 [])) 6
    -- of several the first
    ∷ row (refusal (arrives after10 (token_frame 4 9 4 9 9 None 0 []))) 15
    ∷ row (refusal (visited after10 4 9 9 None 0 [])) 16
    ∷ []

-- ---- the leave to resend

abbrev pub resends : Reply → Reply
resends reply = resent reply.rec 1472

abbrev pub resendings : List Trial
resendings =
    -- the token that was forwarded, byte for byte
    row (outcome (resends forwarded)) 7
    ∷ row_of (resends forwarded).frames (frame_at forwarded 0)
    -- a refused arrival keeps it
    ∷ row (outcome (resends (arrives after10 token4))) 7
    -- a message ends it: kept, had, ahead
    ∷ row (refusal (resends (heard after10 11 0 []))) 19
    ∷ row (refusal (resends (heard after10 10 0 []))) 19
    ∷ row (refusal (resends (heard after10 33 0 []))) 19
    ∷ []

-- ---- the three parts: of messages, of tokens, of both at the door

abbrev pub hearing : List Trial
hearing = samples ++ messages ++ delivering

abbrev pub visiting : List Trial
visiting = marking ++ arus ++ forwarding ++ flow ++ contents ++ stalling ++ requesting

abbrev pub entering : List Trial
entering = door ++ resendings
