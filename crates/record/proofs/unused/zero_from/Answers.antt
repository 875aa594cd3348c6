use Rattle.std.proofs.lemmas.List.{take_rest}
use Rattle.record.proofs.UnusedLaws.{past_end}
use Rattle.record.proofs.unused.zero_from.Goals as goal

pub returns-then-n-eq0 : goal.returns-then-n-eq0
returns-then-n-eq0 g c = rw c.if-n-eq0.true c.all_zero.ensures

pub returns-then-s-first : goal.returns-then-s-first
returns-then-s-first g c = past_end g.W.Word.value _ _ c.if-s-first.true

pub returns : goal.returns
returns g c = rw take_rest at c.all_zero-2.ensures
