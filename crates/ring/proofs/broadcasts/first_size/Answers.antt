use Prim.Native.Nat.{min}
use mathlib.Core.Path.{◌≡◌, ◌∙◌}
use native.Mathlib.Omega.{arith}
use lib.ListN.{length}
use borrow.Author.Rules.{rules}
use Rattle.ring.proofs.places.CutLaws.{size_none, size-some}
use Rattle.ring.proofs.broadcasts.first_size.Goals as goal

pub returns-in-Some : goal.returns-in-Some
returns-in-Some c =
    let some = size-some c.args.written.now c.framed_size.result c.framed_size.ensures.value c.in-Some.size c.in-Some.is in
    let least : c.min.result ≡ min c.in-Some.size (length c.args.written.now) = search rules in
    record { value = least ∙ some.0; result_nonzero = λ more. omega (arith, least, some.1) }

pub returns-in-None : goal.returns-in-None
returns-in-None c = record { value = size_none c.args.written.now c.framed_size.result c.framed_size.ensures.value c.in-None.is; result_nonzero = λ more. more }
