use Rattle.std.proofs.Common.{◌≡◌, true, false, rules}
use Rattle.std.proofs.lemmas.Iterator.{first_from_Range}
use Rattle.station.specs.Over.{ids_in}
use Rattle.ring.proofs.places.MemberLaws.{test, found-first}
use Rattle.ring.proofs.members.place_of.Goals as goal

pub returns : goal.returns
returns c =
    let ids = ids_in c.args.members.now in
    found-first ids c.args.id c.id_count.result c.find.result c.id_count.ensures
    (first_from_Range _ _ _ c.find.result (λ k. test ids c.args.id k ≡ true) (λ k. test ids c.args.id k ≡ false) c.find.ensures.ran (λ x q h. search rules) (λ x q h. search rules))
