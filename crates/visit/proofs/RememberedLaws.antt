-- The token that may be resent, written out.
use Prim.Native.Nat.{ℕ, ◌-◌, ◌≤◌}
use mathlib.Core.Path.{◌≡◌, ◌∙◌}
use mathlib.Core.List.{List}
use native.Mathlib.Nat.{sub-zero}
use native.Mathlib.Omega.{arith}
use lib.ListN.{length, take}
use lib.Seq.{sets, length-take-le}
use Rattle.words.proofs.StoreLaws.{front-stored}
use Rattle.frames.specs.Layout.{longest_token}
use Rattle.record.specs.Turn.{remembered}
use Rattle.record.specs.declared.turn.Turn.{Turn}
use Rattle.visit.specs.Output.{followed_by}

-- the remembered token, as the code spells it, stored at the front
pub remembered-stored : (t : Turn) (out out' : List ℕ)
    → length t.token ≡ longest_token
    → t.size ≤ longest_token
    → longest_token ≤ length out
    → out' ≡ sets out 0 (take (t.size - 0) t.token)
    → out' ≡ followed_by (remembered t) out
remembered-stored t out out' long fits room e =
    let size : length (remembered t) ≡ t.size = length-take-le t.size t.token (omega arith) in
    rw sub-zero at e ∙ front-stored t.size (remembered t) out size (omega arith) ∙ rw size
