-- Document 01's bench script as a list of calls, and the lines that it prints: demand 3 is not about nothing. [document 01, Trials: the bench]
use Rattle.std.specs.Prelude.{ℕ, zero, suc, ◌≡◌, Bool, true, false, ◌&&◌, cond, List, [], ◌∷◌, ◌++◌, map, length, replicate, eqb, unwrap_or, Result, Ok, Err}
use Rattle.std.proofs.Math.Option.{Option, none, some}
use Rattle.frames.specs.Message.{content_of}
use Rattle.frames.specs.Read.{read_of}
use Rattle.frames.specs.trials.Trials.{same}
use Rattle.frames.specs.declared.refusal.Refusal.{Refusal}
use Rattle.frames.specs.declared.reader.Frame.{Frame}
use Rattle.frames.specs.declared.reader.Frame.TheVariants.{Message as IsMessage, Token as IsToken}
use Rattle.visit.specs.Output.{most_frames, most_deliveries}
use Rattle.record.specs.declared.Record.{Record}
use Rattle.ring.specs.Calls.{Call, post, arrival, reply_to}
use Rattle.ring.specs.History.{Event, Written, place, written_by, reading, delivery_list, handed_by, is_accepted}
use Rattle.ring.specs.Run.{Ring, records, first_frame, ring_of, start, run, structs, over_structs}
use Rattle.ring.specs.Demand.{CanAfter}
use Rattle.ring.specs.Newest.{newest}
use Rattle.ring.specs.Stations.{place_from, addressee_of}

-- ---- r 4 3 7

abbrev pub script_members : List ℕ
script_members = 3 ∷ 7 ∷ []

abbrev pub script_ring : ℕ
script_ring = 4

-- ---- t: the newest token to its addressee, and its broadcasts to all others by place

-- buffers as large as question 1 asks
abbrev arrives : ℕ → List ℕ → Call
arrives p frame = arrival p frame (replicate most_frames 0) (replicate most_deliveries 0)

-- all frames but the last, the token
unfoldable pub all_but_token : List (List ℕ) → List (List ℕ)
all_but_token [] = []
all_but_token (f ∷ []) = []
all_but_token (f ∷ g ∷ fs) = f ∷ all_but_token (g ∷ fs)

-- at each of the places from p on but one
unfoldable pub to_others : ℕ → List ℕ → ℕ → List (List ℕ) → List Call
to_others p [] one frames = []
to_others p (x ∷ xs) one frames = cond (eqb p one) [] (map (arrives p) frames) ++ to_others (suc p) xs one frames

unfoldable pub hands_on : Ring Record → List ℕ → ℕ → List Call
hands_on s token p =
    arrives p token
    ∷ to_others 0 script_members p (all_but_token (written_by (record { call = arrives p token; reply = reply_to (s.at p) (arrives p token) })))

unfoldable pub tick : Ring Record → List Call
tick s =
    let token = newest (first_frame script_members script_ring) s.history in
    hands_on s token (unwrap_or (place_from 0 script_members (addressee_of (read_of token))) (length script_members))

unfoldable pub ticks : ℕ → Ring Record → List Call
ticks zero s = []
ticks (suc n) s = let calls = tick s in calls ++ ticks n (run structs s calls)

-- ---- the script: p 1 1 up, p 0 0 ok, then five lines t

abbrev pub script_posts : List Call
script_posts = post 1 1 (117 ∷ 112 ∷ []) ∷ post 0 0 (111 ∷ 107 ∷ []) ∷ []

-- n lines t
unfoldable pub script_of : ℕ → List Call
script_of n = script_posts ++ ticks n (run structs (start (records script_members script_ring)) script_posts)

unfoldable pub script : List Call
script = script_of 5

-- what its calls come to
unfoldable pub script_events : List Event
script_events = (over_structs script_members script_ring).history script

-- ---- each delivery prints place, message number, sender, service, content

pub record Line : Type 0 where
  pub place : ℕ
  pub number : ℕ
  pub sender : ℕ
  pub service : ℕ
  pub content : List ℕ

abbrev pub line_by : ℕ → List ℕ → Result Frame Refusal → Line
line_by p frame (Err why) = record { place = p; number = 0; sender = 0; service = 0; content = [] }
line_by p frame (Ok (IsMessage m)) = record { place = p; number = m.number.0; sender = m.sender; service = m.service; content = content_of frame }
line_by p frame (Ok (IsToken t)) = record { place = p; number = 0; sender = 0; service = 0; content = [] }

unfoldable pub lines_of : List Event → List Line
lines_of [] = []
lines_of (e ∷ earlier) = lines_of earlier ++ map (λ f. line_by (place e) f (read_of f)) (handed_by e)

-- what document 01 has it print
abbrev line : ℕ → ℕ → ℕ → ℕ → List ℕ → Line
line place number sender service content =
    record { place = place; number = number; sender = sender; service = service; content = content }

abbrev pub printed : List Line
printed =
    line 0 1 3 0 (111 ∷ 107 ∷ [])
    ∷ line 1 1 3 0 (111 ∷ 107 ∷ [])
    ∷ line 1 2 7 1 (117 ∷ 112 ∷ [])
    ∷ line 0 2 7 1 (117 ∷ 112 ∷ [])
    ∷ []

abbrev pub same_line : Line → Line → Bool
same_line a b =
    eqb a.place b.place
    && eqb a.number b.number
    && eqb a.sender b.sender
    && eqb a.service b.service
    && same a.content b.content

unfoldable pub same_lines : List Line → List Line → Bool
same_lines [] [] = true
same_lines [] (b ∷ bs) = false
same_lines (a ∷ more) [] = false
same_lines (a ∷ more) (b ∷ bs) = same_line a b && same_lines more bs

-- ---- both delivery lists are readings 1 and 2

abbrev pub frame_in : Option Written → List ℕ
frame_in none = []
frame_in (some w) = w.frame

unfoldable pub readings : List Event → List ℕ
readings es = frame_in (reading (ring_of script_members script_ring) es 1) ++ frame_in (reading (ring_of script_members script_ring) es 2)

-- two frames of 24 bytes, so both readings are there
unfoldable pub lists_are : List ℕ → List Event → Bool
lists_are bytes es = eqb (length bytes) 48 && same (delivery_list 0 es) bytes && same (delivery_list 1 es) bytes

-- ---- rounds: the places of accepted tokens, the oldest first

unfoldable pub accepted_at : List Event → List ℕ
accepted_at [] = []
accepted_at (e ∷ earlier) = accepted_at earlier ++ cond (is_accepted e) (place e ∷ []) []

-- ---- the script runs

pub record ScriptRuns : Type 0 where
  -- its calls can be made, and print that
  pub can : CanAfter script_members script_ring (over_structs script_members script_ring) [] script
  pub prints : same_lines (lines_of script_events) printed ≡ true
  pub lists : lists_are (readings script_events) script_events ≡ true
  -- with seven lines t: after the first, three rounds
  pub rounds : same (accepted_at ((over_structs script_members script_ring).history (script_of 7))) (0 ∷ 1 ∷ 0 ∷ 1 ∷ 0 ∷ 1 ∷ 0 ∷ []) ≡ true
