use mathlib.Core.Path.{◌∙◌}
use Rattle.record.proofs.PartLaws.{contents-put, behind-left, content-copied}
use Rattle.record.proofs.lent.hold_content_in.Goals as goal

pub returns : goal.returns
returns c =
    let s = c.args.s.now in
    let w = c.put_slice.new.out in
    let kept = c.put_slice.auto.out in
    let copied = content-copied s _ _ c.args.post c.args.size c.requires.0 c.requires.1 c.requires.2 c.get_slice.ensures in
    (contents-put s w c.requires.0 kept ∙ rw (c.place_of-place.ensures, copied) at c.put_slice.ensures, behind-left s w c.requires.0 kept)
