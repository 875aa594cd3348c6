use native.Mathlib.Omega.{arith}
use lib.ListN.{length}
use Rattle.visit.specs.inner.Steps.{visit_of}
use Rattle.visit.proofs.Broadcast.{repeats-ready}
use Rattle.visit.proofs.token_visit.TokenVisit.put_repeats.Goals as goal

pub new-log-requires : goal.new-log-requires
new-log-requires c =
    let ready = repeats-ready (visit_of c.args.self.now) c.args.self.now.acceptable (length c.args.out.now) c.requires.1 in
    rw c.contents_in.ensures (ready.0, ready.1)

pub put_each-requires : goal.put_each-requires
put_each-requires c =
    let ready = repeats-ready (visit_of c.args.self.now) c.args.self.now.acceptable (length c.args.out.now) c.requires.1 in
    rw (c.new-log.ensures.0, c.new-log.ensures.1, c.contents_in.ensures, c.as_slice.ensures, c.requires.0) (ready.2, omega (arith, ready.3))
