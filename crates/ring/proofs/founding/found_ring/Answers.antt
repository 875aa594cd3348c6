use native.Mathlib.Omega.{arith}
use Rattle.ring.proofs.places.FoundingLaws.{ring-roomless, ring-refused, ring-founded}
use Rattle.ring.proofs.founding.found_ring.Goals as goal

pub returns-then-records-n : goal.returns-then-records-n
returns-then-records-n c =
    let args = c.args in
    ring-roomless args.records.now args.list.now args.ring.0 args.token.now _ _ c.id_count-n.ensures c.if-records-n.true c.from.ensures

pub returns-then-first-ne0 : goal.returns-then-first-ne0
returns-then-first-ne0 c =
    let args = c.args in
    ring-refused args.records.now args.list.now args.ring.0 args.token.now _ _ _ _ c.id_count-n.ensures (omega (arith, c.if-records-n.false))
    c.found_at-first.ensures.0 c.found_at-first.ensures.1 c.found_at-first.ensures.2 (omega arith)

pub returns : goal.returns
returns c =
    let args = c.args in
    ring-founded args.records.now args.list.now args.ring.0 args.token.now _ _ _ _ c.id_count-n.ensures (omega (arith, c.if-records-n.false))
    c.found_at-first.ensures.0 c.found_at-first.ensures.1 c.found_at-first.ensures.2 _ (omega arith) c.found_others.ensures
