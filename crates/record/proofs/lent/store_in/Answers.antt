use Rattle.record.proofs.PartLaws.{contents-put, behind-left}
use Rattle.record.proofs.lent.store_in.Goals as goal

pub returns : goal.returns
returns c =
    let s = c.args.s.now in
    (rw (contents-put s c.store.new.contents c.requires.0 c.store.auto.contents) c.store.ensures, behind-left s c.store.new.contents c.requires.0 c.store.auto.contents)
