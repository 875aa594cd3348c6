use Rattle.record.proofs.PartLaws.{waiting-put, before-left}
use Rattle.record.proofs.lent.take_oldest_in.Goals as goal

pub returns : goal.returns
returns c =
    let s = c.args.s.now in
    (rw (waiting-put s c.take_oldest.new.waiting c.requires.0 c.take_oldest.auto.waiting) c.take_oldest.ensures, before-left s c.take_oldest.new.waiting c.requires.0 c.take_oldest.auto.waiting)
