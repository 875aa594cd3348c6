-- The token that may be resent. [document 01, The station record]
use Rattle.std.specs.Prelude.{ℕ, Bool, not, List, take, eqb}
use Rattle.record.specs.declared.turn.Turn.{Turn}

-- may the token be resent?
abbrev pub may_resend : Turn → Bool
may_resend t = not (eqb t.size 0)

-- the remembered token's frame
abbrev pub remembered : Turn → List ℕ
remembered t = take t.size t.token
