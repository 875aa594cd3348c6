-- Trials of step 1: what is allowed, of the quantities alone; the table of the crate above looks at what is sent. [document 02, Job 1]
use Rattle.std.specs.Prelude.{ℕ, List, [], ◌∷◌, None}
use Rattle.record.specs.Fresh.{fresh_posts}
use Rattle.record.specs.Parts.{with_parts}
use Rattle.record.specs.declared.posts.Posts.{Posts}
use Rattle.record.specs.declared.Record.{Record}
use Rattle.visit.specs.Visit.{Visit, allowance}
use Rattle.visit.specs.Acceptable.{visit}
use Rattle.visit.specs.trials.Sample.{Trial, row, station, turn_waited, token_carrying}

-- only how many wait counts here
abbrev pub waiting : ℕ → Posts
waiting n = record { count = n; services = fresh_posts.services; lengths = fresh_posts.lengths; contents = fresh_posts.contents }

-- a station where n posts wait, with this own part of the backlog
abbrev pub busy : ℕ → ℕ → Record
busy n waited = with_parts station station.log (turn_waited 0 0 0 waited) (waiting n)

-- a token with this round count and backlog
abbrev pub visits : Record → ℕ → ℕ → Visit
visits r round backlog = visit r (token_carrying 4 7 4 0 0 None round backlog [])

abbrev pub allowing : List Trial
allowing =
    -- 16 wait here, none elsewhere: the share is 24, so document 01's 8
    row (allowance (visits (busy 16 0) 0 0)) 8
    -- 16 here, 80 elsewhere: 4
    ∷ row (allowance (visits (busy 16 0) 0 80)) 4
    -- rounded down: 24 · 16 / 81
    ∷ row (allowance (visits (busy 16 0) 0 65)) 4
    -- 1 here, 96 elsewhere: the share is 0, so 1
    ∷ row (allowance (visits (busy 1 0) 0 96)) 1
    -- nothing waits: the share doesn't limit
    ∷ row (allowance (visits (busy 0 0) 0 96)) 8
    -- one's own part is no backlog of the others
    ∷ row (allowance (visits (busy 16 16) 0 96)) 4
    ∷ row (allowance (visits (busy 16 16) 0 5)) 8
    -- the round may leave less, or nothing
    ∷ row (allowance (visits (busy 16 0) 22 80)) 2
    ∷ row (allowance (visits (busy 1 0) 24 96)) 0
    ∷ []
