-- A record lent as bytes. [document 01, The station and its neighbours: another length isn't whole]
use Rattle.std.specs.Prelude.{ℕ, Bool, cond, List, [], length, eqb}
use Rattle.record.specs.Layout.{record_size}
use Rattle.record.specs.Whole.{whole}
use Rattle.record.specs.Fresh.{fresh}
use Rattle.record.specs.Bytes.{record_of}
use Rattle.record.specs.declared.Record.{Record}

-- the record of nobody: it has no members, so it isn't whole
abbrev pub no_record : Record
no_record = fresh [] 0 0

-- the record in lent bytes; bytes of another length have none
unfoldable pub lent : List ℕ → Record
lent s = cond (eqb (length s) record_size) (record_of s) no_record

abbrev pub bytes_whole : List ℕ → Bool
bytes_whole s = whole (lent s)
