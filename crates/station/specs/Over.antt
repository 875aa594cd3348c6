-- The calls on lent bytes: a record is bytes of the documented layout, a list of members is two bytes an id. Each is the call's own
-- definition on the record in those bytes. [document 01, The station and its neighbours]
use Rattle.std.specs.Prelude.{ℕ, ◌/◌, ◌%◌, ◌≡◌, ◌&&◌, cond, List, [], length, leb, eqb, Ok}
use Rattle.words.specs.Run.{words}
use Rattle.frames.specs.Layout.{shortest_token}
use Rattle.record.specs.Layout.{record_size}
use Rattle.record.specs.Lent.{no_record, lent}
use Rattle.station.specs.Reply.{Reply, station_after}
use Rattle.station.specs.Found.{founded}
use Rattle.station.specs.Post.{posted}
use Rattle.station.specs.Resend.{resent}
use Rattle.station.specs.Arrive.{arrived}
use Rattle.station.specs.declared.answer.Answer.TheVariants.{Founded}

-- the ids in a list of members; an odd number of bytes is no list
unfoldable pub ids_in : List ℕ → List ℕ
ids_in s = cond (eqb (length s % 2) 0) (words 2 (length s / 2) s) []

-- founding on a list of ids. There is no record before it; 1 asks here for the record's length and 32 bytes for the token
unfoldable pub found_in : List ℕ → List ℕ → ℕ → ℕ → ℕ → Reply
found_in s ids own ring room = founded no_record (leb record_size (length s) && leb shortest_token room) ids own ring

abbrev pub found_over : List ℕ → List ℕ → ℕ → ℕ → ℕ → Reply
found_over s members own ring room = found_in s (ids_in members) own ring room

unfoldable pub post_over : List ℕ → ℕ → List ℕ → Reply
post_over s service content = posted (lent s) service content

unfoldable pub arrive_over : List ℕ → List ℕ → ℕ → ℕ → Reply
arrive_over s frame frames deliveries = arrived (lent s) frame frames deliveries

unfoldable pub resend_over : List ℕ → ℕ → Reply
resend_over s room = resent (lent s) room

-- ---- calls follow one another: the next one finds the record that this one left

-- after a posting, taken or refused, the record in the bytes is the reply's
abbrev pub PostedThere : Type 0
PostedThere = (s : List ℕ) (service : ℕ) (content : List ℕ)
    → lent (station_after (post_over s service content) s) ≡ (post_over s service content).rec

-- after an arrival
abbrev pub ArrivedThere : Type 0
ArrivedThere = (s frame : List ℕ) (frames deliveries : ℕ)
    → lent (station_after (arrive_over s frame frames deliveries) s) ≡ (arrive_over s frame frames deliveries).rec

-- after a resending
abbrev pub ResentThere : Type 0
ResentThere = (s : List ℕ) (room : ℕ) → lent (station_after (resend_over s room) s) ≡ (resend_over s room).rec

-- the same after a founding that was taken, where the bytes have a record's length
abbrev pub FoundedThere : Type 0
FoundedThere = (s members : List ℕ) (own ring room : ℕ)
    → length s ≡ record_size
    → (found_over s members own ring room).answer ≡ Ok Founded
    → lent (station_after (found_over s members own ring room) s) ≡ (found_over s members own ring room).rec
