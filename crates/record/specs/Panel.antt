-- What the panel shows. [document 02, Job 2]
use Rattle.std.specs.Prelude.{ℕ, length, ltb}
use Rattle.record.specs.Count.{those}
use Rattle.record.specs.Held.{held_numbers}
use Rattle.record.specs.declared.log.Log.{Log}

-- how many messages are held and not delivered: those numbered above the delivered mark
unfoldable pub undelivered : Log → ℕ
undelivered l = length (those (ltb l.delivered.0) (held_numbers l))
