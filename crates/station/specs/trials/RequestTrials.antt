-- Trials of document 02's requests. [document 02, Jobs 1 and 2]
use Rattle.std.specs.Prelude.{ℕ, List, [], ◌∷◌, ◌++◌, None}
use Rattle.frames.specs.Token.{token_bytes}
use Rattle.record.specs.declared.Record.{Record}
use Rattle.station.specs.Reply.{Reply}
use Rattle.visit.specs.trials.Sample.{Trial, row, row_of, station, reached_with, turn_waited, token_carrying}
use Rattle.visit.specs.trials.Shares.{allowing}
use Rattle.station.specs.trials.Sample.{refusal, loaded_with, arrives, heard, share_left}
use Rattle.station.specs.trials.ArrivalTrials.{heard1, heard2, once, twice}

-- ---- 1. Busy posts get their turn: what is sent; `allowing` has what is allowed

-- n posts wait at a station with this own part of the backlog; a token with this backlog
abbrev pub shared : ℕ → ℕ → ℕ → Reply
shared n waited backlog = arrives (loaded_with n (reached_with 0 (turn_waited 0 0 0 waited))) (token_bytes (token_carrying 4 7 4 0 0 None 0 backlog []))

abbrev pub sharing : List Trial
sharing =
    -- 16 wait here, none elsewhere: 8 new
    row_of (share_left (shared 16 0 0)) (8 ∷ 8 ∷ 8 ∷ [])
    -- 16 here, 80 elsewhere: 4, whether one's own part is on the token or not
    ∷ row_of (share_left (shared 16 0 80)) (4 ∷ 92 ∷ 12 ∷ [])
    ∷ row_of (share_left (shared 16 16 96)) (4 ∷ 92 ∷ 12 ∷ [])
    -- 1 here, 96 elsewhere: the share is 0, so 1
    ∷ row_of (share_left (shared 1 0 96)) (1 ∷ 96 ∷ 0 ∷ [])
    -- nothing waits; one's own part is taken off, not below 0
    ∷ row_of (share_left (shared 0 5 96)) (0 ∷ 91 ∷ 0 ∷ [])
    ∷ row_of (share_left (shared 0 16 5)) (0 ∷ 0 ∷ 0 ∷ [])
    -- 128 in all
    ∷ row_of (share_left (shared 16 0 128)) (2 ∷ 128 ∷ 14 ∷ [])
    -- backlog 129: 12. An own part of 17: not whole
    ∷ row (refusal (shared 0 0 129)) 12
    ∷ row (refusal (shared 0 17 0)) 2
    ∷ []

-- ---- 2. Held lines on the panel

-- the same station with another count
abbrev pub showing : ℕ → Record → Record
showing n r = record { own = r.own; panel = n; log = r.log; turn = r.turn; posts = r.posts }

abbrev pub panels : List Trial
panels =
    -- nothing is held
    row station.panel 0
    -- one behind a gap counts; once the gap is closed both are delivered
    ∷ row (heard station 2 0 []).rec.panel 1
    ∷ row (heard (heard station 2 0 []).rec 1 0 []).rec.panel 0
    -- one that is ahead is not held
    ∷ row (heard station 33 0 []).rec.panel 0
    -- a safe one waits, and the one behind it; not after one forwarding, but when the safe mark reaches them they are delivered
    ∷ row heard1.rec.panel 1
    ∷ row heard2.rec.panel 2
    ∷ row once.rec.panel 2
    ∷ row twice.rec.panel 0
    -- another count is not whole
    ∷ row (refusal (arrives (showing 1 station) [])) 2
    ∷ row (refusal (arrives (showing 0 heard1.rec) [])) 2
    ∷ []

abbrev pub requested : List Trial
requested = allowing ++ sharing ++ panels
