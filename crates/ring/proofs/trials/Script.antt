-- The bench script can be run, and does what document 01 says.
use mathlib.Core.Path.{◌≡◌, refl}
use mathlib.Core.Bool.{true}
use mathlib.Core.List.{List, [], ◌∷◌}
use Prim.Native.Nat.{ℕ}
use lib.ListN.{length}
use Rattle.frames.specs.trials.Trials.{same}
use Rattle.ordering.specs.Lists.{first_of}
use Rattle.station.proofs.AcceptanceTrials.{opened}
use Rattle.ring.specs.Calls.{Call}
use Rattle.ring.specs.History.{written_in, is_numbered, reading, delivery_list, is_token_numbered, any_of, is_accepted}
use Rattle.ring.specs.Run.{records, first_frame, start, update, step, run, over_structs}
use Rattle.ring.specs.Newest.{newest}
use Rattle.ring.specs.Stations.{place_from}
use Rattle.ring.specs.trials.Script.{script_members, script_ring, all_but_token, to_others, hands_on, tick, ticks, script_of, script, script_events, lines_of, printed, same_lines, readings, lists_are, accepted_at, ScriptRuns}
use Rattle.ring.proofs.trials.Checked.{any_frame, possible, can-be-made}

-- opens all that a run computes with
ran : List Call → ℕ
unfolding opened written_in is_token_numbered any_of is_accepted update step run newest place_from all_but_token to_others hands_on tick ticks script_of script script_events
ran calls = length calls

can-be : possible (length script_members) (first_frame script_members script_ring) (start (records script_members script_ring)) script ≡ true
unfolding ran any_frame possible
can-be = refl

prints : same_lines (lines_of script_events) printed ≡ true
unfolding ran lines_of same_lines
prints = refl

lists : lists_are (readings script_events) script_events ≡ true
unfolding ran first_of is_numbered reading delivery_list readings lists_are
lists = refl

rounds : same (accepted_at ((over_structs script_members script_ring).history (script_of 7))) (0 ∷ 1 ∷ 0 ∷ 1 ∷ 0 ∷ 1 ∷ 0 ∷ []) ≡ true
unfolding ran accepted_at
rounds = refl

pub script-runs : ScriptRuns
script-runs = record { can = can-be-made script_members script_ring (records script_members script_ring) script can-be; prints = prints; lists = lists; rounds = rounds }
