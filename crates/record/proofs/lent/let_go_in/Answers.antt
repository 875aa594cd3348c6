use Rattle.record.proofs.PartLaws.{contents-put, behind-left}
use Rattle.record.proofs.lent.let_go_in.Goals as goal

pub returns : goal.returns
returns c =
    let s = c.args.s.now in
    (rw (contents-put s c.let_go.new.contents c.requires.0 c.let_go.auto.contents) c.let_go.ensures, behind-left s c.let_go.new.contents c.requires.0 c.let_go.auto.contents)
