use Rattle.visit.proofs.held_log.HeldLog.new.Goals as goal

pub invariant_of-result : goal.invariant_of-result
invariant_of-result c = record {
  good = c.requires.0;
  of_ring = c.ring_header.ensures c.args.contents.now;
  follows = c.requires.1;
}
