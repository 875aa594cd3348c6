-- Every station's record stays whole.
use Prim.Native.Nat.{ℕ, ◌<◌}
use mathlib.Core.Path.{◌≡◌, ◌∙◌, ap}
use mathlib.Core.Bool.{Bool, true, false, cond}
use mathlib.Core.List.{List, [], ◌∷◌}
use lib.Dec.{eqb}
use lib.ListN.{length, get_or}
use Rattle.record.specs.Members.{members_counted, ids_follow, ring_in_range}
use Rattle.record.specs.Whole.{whole}
use Rattle.record.specs.declared.Record.{Record}
use Rattle.record.proofs.FreshLaws.{fresh-whole}
use Rattle.station.specs.Reply.{Reply}
use Rattle.station.proofs.FoundLaws.{foundable-when}
use Rattle.station.proofs.ReplyGood.{posted-good, resent-good}
use Rattle.station.proofs.ArrivedGood.{arrived-good}
use Rattle.ring.specs.Calls.{Call, post, arrival, resending, station_of, reply_to}
use Rattle.ring.specs.Run.{Ring, records, update, step, run, structs}
use Rattle.ring.proofs.runs.Going.{Possible}
use Rattle.ring.proofs.runs.Start.{own-among, founded-at}

-- the records at the members' places
abbrev pub Wholes : ℕ → (ℕ → Record) → Type 0
Wholes size at = (p : ℕ) → p < size → whole (at p) ≡ true

-- ---- founding's are

pub founded-whole : (members : List ℕ) (ring : ℕ) → members_counted members ≡ true → ids_follow members ≡ true → ring_in_range ring ≡ true → Wholes (length members) (records members ring)
founded-whole members ring counted follow ranged p h =
    ap (λ (r : Reply). whole r.rec) (founded-at members ring counted follow ranged p h)
    ∙ fresh-whole members (get_or members p 0) ring (foundable-when members (get_or members p 0) ring counted follow (own-among members p h) ranged)

-- ---- every call keeps them so

call-whole : (r : Record) (c : Call) → whole r ≡ true → whole (reply_to r c).rec ≡ true
call-whole r (post place service content) w = (posted-good r service content).2 w
call-whole r (arrival place frame frames deliveries) w = (arrived-good r frame (length frames) (length deliveries)).2 w
call-whole r (resending place frames) w = (resent-good r (length frames)).2 w

step-whole : (size : ℕ) (s : Ring Record) (c : Call) → station_of c < size → Wholes size s.at → Wholes size (step structs s c).at
unfolding step update
step-whole size s c here w q h = by_place (eqb q (station_of c))
  where
    by_place : (b : Bool) → whole (cond b (reply_to (s.at (station_of c)) c).rec (s.at q)) ≡ true
    by_place true = call-whole (s.at (station_of c)) c (w (station_of c) here)
    by_place false = w q h

pub run-whole : (size : ℕ) (first : List ℕ) (s : Ring Record) (cs : List Call) → Possible size first s cs → Wholes size s.at → Wholes size (run structs s cs).at
unfolding run
run-whole size first s [] can w = w
run-whole size first s (c ∷ cs) can w = run-whole size first (step structs s c) cs can.2 (step-whole size s c can.0 w)
