use Rattle.std.proofs.Common.{◌≡◌, ◌<◌, length, arith, rules}
use Rattle.std.proofs.lemmas.Bool.Decides.{nat_tests}
use Rattle.visit.specs.Within.{frames_in}
use Rattle.ring.proofs.places.CutLaws.{none-left, cut_at}
use Rattle.ring.proofs.broadcasts.FramesIterator.next.Goals as goal

pub returns-then-is_empty-clause-steps : goal.returns-then-is_empty-clause-steps
returns-then-is_empty-clause-steps c =
    let s = c.args.self.now.rest.now in
    let e : length s ≡ 0 = grind (arith, nat_tests) in
    (none-left s e, none-left s e)

pub returns-clause-steps : goal.returns-clause-steps
returns-clause-steps c =
    let s = c.args.self.now.rest.now in
    let some : 0 < length s = grind (arith, nat_tests) in
    rw (c.split_at.ensures.front, c.split_at.ensures.back) (cut_at s c.first_size.result some c.first_size.ensures.value)

pub returns-clause-goes : goal.returns-clause-goes
returns-clause-goes c =
    let s = c.args.self.now.rest.now in
    let some : 0 < length s = grind (arith, nat_tests) in
    let cut = cut_at s c.first_size.result some c.first_size.ensures.value in
    let fewer : length (frames_in c.split_at.result.1.now) < length (frames_in s) = rw (c.split_at.ensures.back, cut) (omega arith) in
    record { on = λ f. (search rules, search rules, fewer); keeps = search rules; rests = search rules }
