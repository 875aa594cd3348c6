-- A held message's frame, and delivery. [document 01, A message arrives: deliver]
use Rattle.std.specs.Prelude.{ℕ, ◌+◌, ◌-◌, Bool, ◌||◌, cond, length, leb, eqb}
use mathlib.Core.List.{List, [], ◌∷◌, map, flatten}
use Rattle.frames.specs.Message.{message_bytes}
use Rattle.frames.specs.declared.header.Header.{Header}
use Rattle.frames.specs.declared.message.Message.{Message}
use Rattle.record.specs.Count.{numbers_after}
use Rattle.record.specs.Held.{Entry, place_of, entry_at, log_with}
use Rattle.record.specs.Members.{representative}
use Rattle.record.specs.Ring.{ids}
use Rattle.record.specs.declared.log.Log.{Log}

-- ---- a held message's frame, as on the cable

-- the header of this ring's frames
abbrev pub ring_header : Log → Header
ring_header l = record { ring = l.ring; representative = representative (ids l) }

abbrev pub message_with : Log → ℕ → Entry → Message
message_with l n e = record { header = ring_header l; sender = e.sender; number = record { 0 = n }; service = e.service }

unfoldable pub frame_with : Log → ℕ → Entry → List ℕ
frame_with l n e = message_bytes (message_with l n e) e.content

-- what stands at a number's place; asked only of numbers that are held
abbrev pub entry_of : Log → ℕ → Entry
entry_of l n = entry_at l.held (place_of n)

abbrev pub frame_of : Log → ℕ → List ℕ
frame_of l n = frame_with l n (entry_of l n)

-- frames one after another
abbrev pub joined : List (List ℕ) → List ℕ
joined frames = flatten frames

-- ---- deliver

-- service 0 is agreed, 1 is safe
abbrev pub is_agreed : Entry → Bool
is_agreed e = eqb e.service 0

-- `safe` is the mark to deliver by; in step 9 it is the new one, while the log still has the old.
-- A number up to the level is handed out when it is agreed, or is at most the safe mark
abbrev pub is_due : Log → ℕ → ℕ → Bool
is_due l safe n = is_agreed (entry_of l n) || leb n safe

-- the numbers up to the first that fails the test
unfoldable pub take_while : (ℕ → Bool) → List ℕ → List ℕ
take_while test [] = []
take_while test (n ∷ ns) = cond (test n) (n ∷ take_while test ns) []

-- the numbers after the delivered mark up to the level, as far as each is handed out
unfoldable pub due : Log → ℕ → List ℕ
due l safe = take_while (is_due l safe) (numbers_after l.delivered.0 (l.level.0 - l.delivered.0))

-- their frames
abbrev pub handed_out : Log → ℕ → List ℕ
handed_out l safe = joined (map (frame_of l) (due l safe))

-- the delivered mark is raised
unfoldable pub delivered : Log → ℕ → Log
delivered l safe = log_with l l.level l.safe (record { 0 = l.delivered.0 + length (due l safe) }) l.held
