use borrow.Author.Rules.{rules}
use native.Mathlib.Omega.{arith}
use Rattle.ring.proofs.places.FoundingLaws.{founding-goes}
use Rattle.ring.proofs.founding.found_others.Goals as goal

pub loop-place-preserved : goal.loop-place-preserved
loop-place-preserved c = (
  search rules,
  λ before some room e.
      founding-goes c.args.list.now c.args.ring.0 before c.loop-place.place c.loop-place.records c.found_at.new.records (omega arith) (c.loop-place.invariant.1 before some room e)
      (rw c.loop-place.invariant.0 at c.found_at.ensures.1),
)
