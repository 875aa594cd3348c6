-- A record put together from a record and other parts. Whatever else a record has stays as it is.
use Rattle.record.specs.Panel.{undelivered}
use Rattle.record.specs.declared.log.Log.{Log}
use Rattle.record.specs.declared.turn.Turn.{Turn}
use Rattle.record.specs.declared.posts.Posts.{Posts}
use Rattle.record.specs.declared.Record.{Record}

-- the panel shows what this log holds and has not delivered
abbrev pub with_parts : Record → Log → Turn → Posts → Record
with_parts r log turn posts = record { own = r.own; panel = undelivered log; log = log; turn = turn; posts = posts }

-- with other posts alone
abbrev pub with_posts : Record → Posts → Record
with_posts r posts = record { own = r.own; panel = r.panel; log = r.log; turn = r.turn; posts = posts }
