use mathlib.Core.Path.{◌∙◌}
use Rattle.record.proofs.GetLaws.{decoded}
use Rattle.record.proofs.bytes.decode.Goals as goal

pub returns : goal.returns
returns c = c.record_showing.ensures ∙ decoded _ _ _ _ _ c.get-panel.ensures c.get_head.ensures c.get_slice.ensures c.get_slice-2.ensures
