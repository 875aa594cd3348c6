-- Document 01's trials and their edges: a table of tests and the number that each gives. Those of arrival stand in ArrivalTrials.antt, those of document 02's requests in RequestTrials.antt;
-- the specification's own are marked by a star. proofs/AcceptanceTrials.antt has the one theorem that every row passes. [document 01, Trials]
use Rattle.std.specs.Prelude.{ℕ, ◌-◌, true, false, List, [], ◌∷◌, ◌++◌, replicate}
use Rattle.record.specs.Layout.{record_size}
use Rattle.frames.specs.Layout.{shortest_token, longest_token}
use Rattle.frames.specs.trials.Trials.{first_bytes}
use Rattle.record.specs.Fresh.{fresh_log, fresh_posts, fresh}
use Rattle.record.specs.Parts.{with_parts}
use Rattle.record.specs.declared.Record.{Record}
use Rattle.station.specs.Answer.{outcome_of}
use Rattle.station.specs.Reply.{Reply}
use Rattle.visit.specs.Output.{most_frames, most_deliveries}
use Rattle.station.specs.Found.{founded}
use Rattle.station.specs.Post.{posted}
use Rattle.station.specs.Resend.{resent}
use Rattle.visit.specs.trials.Sample.{Trial, row, row_of, station}
use Rattle.station.specs.trials.Sample.{refusal, outcome, bytes, loaded_with}
use Rattle.station.specs.trials.ArrivalTrials.{hearing, visiting, entering}
use Rattle.station.specs.trials.RequestTrials.{requested}

abbrev pub founded_by : List ℕ → ℕ → ℕ → Reply
founded_by ids own ring = founded station true ids own ring

-- a station that may resend a token: the ring's first
abbrev pub remembering : Record
remembering =
    with_parts (fresh (3 ∷ 7 ∷ []) 7 4) (fresh_log (3 ∷ 7 ∷ []) 4)
    (record {
      aru = record { 0 = 0 };
      earlier = record { 0 = 0 };
      number = record { 0 = 1 };
      broadcast = 0;
      stall = 0;
      waited = 0;
      size = shortest_token;
      token = first_bytes ++ replicate (longest_token - shortest_token) 0;
    })
    fresh_posts

-- ---- the table

abbrev pub founding : List Trial
founding =
    -- * by 3 alone: 3. By 3 and 7: taken. By 7 and 3: 4
    row (refusal (founded_by (3 ∷ []) 3 4)) 3
    ∷ row (outcome (founded_by (3 ∷ 7 ∷ []) 3 4)) 1
    ∷ row (refusal (founded_by (7 ∷ 3 ∷ []) 3 4)) 4
    -- the first token, byte for byte
    ∷ row_of (founded_by (3 ∷ 7 ∷ []) 7 4).frames first_bytes
    -- nobody, nine members, eight
    ∷ row (refusal (founded_by [] 3 4)) 3
    ∷ row (refusal (founded_by (1 ∷ 2 ∷ 3 ∷ 4 ∷ 5 ∷ 6 ∷ 7 ∷ 8 ∷ 9 ∷ []) 3 4)) 3
    ∷ row (outcome (founded_by (1 ∷ 8 ∷ 7 ∷ 6 ∷ 5 ∷ 4 ∷ 3 ∷ 65535 ∷ []) 3 4)) 1
    -- an id 0, an id twice, the own id not among them
    ∷ row (refusal (founded_by (0 ∷ 7 ∷ []) 7 4)) 4
    ∷ row (refusal (founded_by (3 ∷ 7 ∷ 7 ∷ []) 7 4)) 4
    ∷ row (refusal (founded_by (3 ∷ 7 ∷ []) 9 4)) 5
    -- ring number 0 and 2,000,000,001
    ∷ row (refusal (founded_by (3 ∷ 7 ∷ []) 7 0)) 6
    ∷ row (refusal (founded_by (3 ∷ 7 ∷ []) 7 2000000001)) 6
    ∷ row (outcome (founded_by (3 ∷ 7 ∷ []) 7 2000000000)) 1
    -- no room; and of several questions the first
    ∷ row (refusal (founded station false (7 ∷ []) 9 0)) 1
    ∷ row (refusal (founded_by (7 ∷ 3 ∷ []) 9 0)) 4
    ∷ row (refusal (founded_by (3 ∷ 7 ∷ []) 9 0)) 5
    ∷ []

abbrev pub posting : List Trial
posting =
    -- content of 0, 64 and 65 bytes
    row (outcome (posted station 0 [])) 2
    ∷ row (outcome (posted station 1 (bytes 64))) 2
    ∷ row (refusal (posted station 1 (bytes 65))) 7
    -- service 2; and of two questions the first
    ∷ row (refusal (posted station 2 [])) 8
    ∷ row (refusal (posted station 2 (bytes 65))) 7
    -- the sixteenth post is taken; the seventeenth: 9
    ∷ row (outcome (posted (loaded_with 15 station) 0 [])) 2
    ∷ row (refusal (posted (loaded_with 16 station) 0 [])) 9
    -- a record that isn't whole: founded by one alone
    ∷ row (refusal (posted (fresh (7 ∷ []) 7 4) 2 (bytes 65))) 2
    ∷ []

abbrev pub resending : List Trial
resending =
    -- a fresh record has no leave
    row (refusal (resent station 1472)) 19
    -- with leave the token's bytes are written, and counted
    ∷ row (outcome (resent remembering 1472)) 7
    ∷ row (outcome_of (resent remembering 1472).answer).frames 32
    ∷ row_of (resent remembering 1472).frames first_bytes
    ∷ row (refusal (resent station 1471)) 1
    ∷ row (refusal (resent (fresh (7 ∷ []) 7 4) 1472)) 2
    ∷ []

-- the sizes that hosts know
abbrev pub sizes : List Trial
sizes = row record_size 3429 ∷ row most_frames 1472 ∷ row most_deliveries 2752 ∷ []

-- of the other calls
abbrev pub calling : List Trial
calling = founding ++ posting ++ resending ++ sizes

abbrev pub table : List Trial
table = calling ++ hearing ++ visiting ++ entering ++ requested
