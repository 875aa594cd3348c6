-- Trials of steps 4 and 6, of the quantities alone; the table of the crate above looks at the token and the record that are left. [document 01, Trials]
use Rattle.std.specs.Prelude.{ℕ, List, [], ◌∷◌, ◌++◌, Option, Some, None}
use Rattle.frames.specs.Token.{blocker_id}
use Rattle.record.specs.declared.Record.{Record}
use Rattle.visit.specs.Visit.{Visit, aru', blocker', safe', rec'}
use Rattle.visit.specs.Acceptable.{visit}
use Rattle.visit.specs.trials.Sample.{Trial, row, row_of, level7, level10, token_with}

-- a token to 7: number, highest, aru, blocker
abbrev pub visits : Record → ℕ → ℕ → ℕ → Option ℕ → Visit
visits r n highest aru blocker = visit r (token_with 4 7 n highest aru blocker 0 [])

-- the aru and the blocker that it leaves
abbrev pub reach_left : Visit → List ℕ
reach_left v = aru' v ∷ blocker_id (blocker' v) ∷ []

abbrev pub blocking : List Trial
blocking =
    -- highest 10, aru 10, nobody; level 7: leaves 7, blocker 7
    row_of (reach_left (visits level7 4 10 10 None)) (7 ∷ 7 ∷ [])
    -- highest 10, aru 5, blocker 9; level 7: leaves 5, blocker 9
    ∷ row_of (reach_left (visits level7 4 10 5 (Some 9))) (5 ∷ 9 ∷ [])
    -- highest 10, aru 5, blocker 7; level 10: leaves 10, nobody
    ∷ row_of (reach_left (visits level10 4 10 5 (Some 7))) (10 ∷ 0 ∷ [])
    -- the level below the aru, with another as blocker: leaves the level, blocker 7
    ∷ row_of (reach_left (visits level7 4 10 9 (Some 9))) (7 ∷ 7 ∷ [])
    ∷ []

-- the station forwards 10, then 7
abbrev pub first : Visit
first = visits level10 4 10 10 None

abbrev pub second : Visit
second = visits (rec' first) 7 10 7 (Some 9)

abbrev pub safety : List Trial
safety =
    -- after one forwarding nothing is safe
    row (safe' first) 0
    -- forwarded 10, then 7: safe mark 7
    ∷ row (safe' second) 7
    -- it never falls
    ∷ row (safe' (visits (rec' second) 10 10 5 (Some 9))) 7
    ∷ []

abbrev pub marking : List Trial
marking = blocking ++ safety
