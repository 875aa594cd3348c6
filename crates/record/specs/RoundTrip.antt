-- The record and its bytes, both ways. [document 01, The station and its neighbours]
use Rattle.std.specs.Prelude.{ℕ, ◌≡◌, true, false, List, length}
use Rattle.words.specs.Word.{Bytes}
use Rattle.record.specs.Layout.{record_size}
use Rattle.record.specs.Whole.{whole}
use Rattle.record.specs.Bytes.{record_bytes, record_of}
use Rattle.record.specs.Lent.{bytes_whole}
use Rattle.record.specs.declared.Record.{Record}

-- bytes of the record's length are what their record encodes to, whole or not
abbrev pub BytesRestored : Type 0
BytesRestored = (s : List ℕ) → Bytes s → length s ≡ record_size → record_bytes (record_of s) ≡ s

-- a whole record is what its bytes decode to
abbrev pub RecordRestored : Type 0
RecordRestored = (r : Record) → whole r ≡ true → (record_of (record_bytes r) ≡ r) × (length (record_bytes r) ≡ record_size)

-- bytes of another length are not whole
abbrev pub OtherLength : Type 0
OtherLength = (s : List ℕ) → (length s ≡ record_size → ⊥) → bytes_whole s ≡ false
