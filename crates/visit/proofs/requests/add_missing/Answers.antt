use borrow.Author.Tests.{true-leb, false-leb}
use Rattle.record.specs.Held.{holds}
use Rattle.visit.proofs.ListedLaws.{adding-adds, adding-skips, adding-full, adding-ends}
use Rattle.visit.proofs.requests.add_missing.Goals as goal
use Rattle.visit.proofs.requests.add_missing.Goals.{then-free-lacks, else-free-lacks}

pub returns-then-is_full : goal.returns-then-is_full
returns-then-is_full c = λ contents. adding-full _ _ _ _ _ _ (c.loop-last.invariant contents) (true-leb _ _ c.if-is_full.ensures)

pub loop-last-preserved : goal.loop-last-preserved
unfolding holds
loop-last-preserved c = λ contents.
    let lacks = rw c.as_slice.ensures at c.lacks.ensures in
    elim c.if-free-lacks.branch [
      | then-free-lacks w ↦ rw (w.all-is, w.push.ensures)
          (adding-adds _ _ _ _ _ _ (c.loop-last.invariant contents) c.loop-last-test.true (false-leb _ _ c.if-is_full.ensures) (rw (c.is_held-free.ensures, lacks) at w.if-free-lacks.true))
      | else-free-lacks w ↦ rw w.all-is
          (adding-skips _ _ _ _ _ _ (c.loop-last.invariant contents) c.loop-last-test.true (rw (c.is_held-free.ensures, lacks) at w.if-free-lacks.false))
    ]

pub returns : goal.returns
returns c = λ contents. adding-ends _ _ _ _ _ _ (c.loop-last.invariant contents) c.loop-last-test.false
