use Rattle.visit.specs.Within.{frames_in}
use Rattle.ring.proofs.places.HearingLaws.{Hearing}
use Rattle.ring.proofs.broadcasts.hear_all.Given as goal

abbrev pub invariant-loop-frame : goal.invariant-loop-frame
invariant-loop-frame l =
    (goal.iterator-loop-frame).can_next l.frame-iterator
    × (goal.iterator-loop-frame).is_finite l.frame-iterator
    × Hearing l.place l.initial.records l.written l.initial.deliveries l.records l.deliveries (frames_in l.frame-iterator.rest.now) l.at
