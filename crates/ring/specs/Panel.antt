-- What a panel reads is right at every station after every list of calls. Over bytes, since a panel reads bytes. [document 02, Job 2]
use Rattle.std.specs.Prelude.{ℕ, ◌<◌, ◌≡◌, List, length, get_or}
use Rattle.record.specs.Layout.{panel_at}
use Rattle.record.specs.Panel.{undelivered}
use Rattle.record.specs.Bytes.{record_of}
use Rattle.station.specs.Over.{ids_in}
use Rattle.ring.specs.Calls.{Call}
use Rattle.ring.specs.Run.{start, run}
use Rattle.ring.specs.OverBytes.{lent_bytes, bytes_founded, Founding, CanOver}

-- the record's bytes at a place after these calls
abbrev pub bytes_after : List ℕ → ℕ → (ℕ → List ℕ) → (ℕ → ℕ) → List Call → ℕ → List ℕ
bytes_after list ring buffers rooms calls p = (run lent_bytes (start (bytes_founded list ring buffers rooms)) calls).at p

-- the byte that the panel reads is the number of messages that the record in these bytes holds and has not delivered
abbrev pub ShowsUndelivered : List ℕ → Type 0
ShowsUndelivered s = get_or s panel_at 0 ≡ undelivered (record_of s).log

abbrev pub PanelRight : Type 0
PanelRight = (list : List ℕ) (ring : ℕ) (buffers : ℕ → List ℕ) (rooms : ℕ → ℕ)
    → Founding list ring buffers rooms
    → (calls : List Call)
    → CanOver list ring buffers rooms calls
    → (p : ℕ) → p < length (ids_in list) → ShowsUndelivered (bytes_after list ring buffers rooms calls p)
