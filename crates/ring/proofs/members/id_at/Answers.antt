use Prim.Native.Nat.{◌<◌}
use native.Mathlib.Omega.{arith}
use lib.ListN.{length}
use Rattle.std.proofs.lemmas.Option.{slice_get-get_or}
use Rattle.station.specs.Over.{ids_in}
use Rattle.ring.proofs.places.MemberLaws.{id-room, id-there}
use Rattle.ring.proofs.members.id_at.Goals as goal
use Rattle.ring.proofs.members.id_at.Goals.{Else-id_count-place}

inside : (c : Else-id_count-place) → c.args.place < length (ids_in c.args.members.now)
inside c = omega (arith, c.id_count.ensures)

pub overflow_mul-place : goal.overflow_mul-place
overflow_mul-place c = omega (arith, id-room c.args.members.now _ (inside (goal.at.overflow_mul-place c).Else-id_count-place))

pub get-requires : goal.get-requires
get-requires c = id-room c.args.members.now _ (inside (goal.at.get-requires c).Else-id_count-place)

pub returns : goal.returns
returns c =
    let here = inside (goal.at.returns c).Else-id_count-place in
    rw (slice_get-get_or (ids_in c.args.members.now) c.args.place 0 here, c.get.ensures, id-there c.args.members.now c.args.place here)
