use mathlib.Core.Path.{◌≡◌, refl}
use mathlib.Core.List.{[], append-nil}
use native.Mathlib.Omega.{arith}
use lib.ListN.{drop, drop_of_length-le}
use Rattle.record.specs.Layout.{record_size}
use Rattle.visit.proofs.hearing.put_heard.Goals as goal

pub returns : goal.returns
returns c =
    let none : drop record_size c.args.s.now ≡ [] = drop_of_length-le c.args.s.now {i = record_size} (omega (arith, c.requires.2)) in
    (refl, rw (c.resend_ended-turn.ensures, none, append-nil) at c.put_head.ensures)
