use Prim.Native.Nat.{◌+◌}
use mathlib.Core.Path.{refl}
use native.Mathlib.Omega.{arith}
use borrow.Author.Rules.{rules}
use Rattle.words.proofs.StoreLaws.{piece-goes, piece-ends}
use Rattle.words.proofs.run.put_many.Goals as goal
use Rattle.words.proofs.run.put_many.Goals.{else-loop-i-test, then-loop-i-test+else-i-end-i-gt16}

pub loop-i-init : goal.loop-i-init
loop-i-init c = record { within = omega arith; size = refl; stored = refl }

pub loop-i-preserved : goal.loop-i-preserved
loop-i-preserved c =
    let so_far = c.loop-i.invariant in
    record {
      within = omega arith;
      size = search rules;
      stored = piece-goes c.args.out.now c.args.xs.now _ _ c.args.at c.loop-i.i 16 so_far.within so_far.stored c.put_piece.ensures;
    }

pub returns : goal.returns
returns c =
    let so_far = c.loop-i.invariant in
    elim c.loop-i-test.branch [
      | else-loop-i-test w ↦ piece-ends c.args.out.now c.args.xs.now _ _ _ c.loop-i.i _ (omega arith) so_far.within c.requires so_far.stored (rw w.out-is at c.put_piece-2.ensures)
      | then-loop-i-test+else-i-end-i-gt16 w ↦
          let stored = piece-goes c.args.out.now c.args.xs.now _ _ c.args.at c.loop-i.i 16 so_far.within so_far.stored w.put_piece.ensures in
          piece-ends c.args.out.now c.args.xs.now _ _ _ (c.loop-i.i + 16) _ (omega arith) (omega arith) c.requires stored (rw w.out-is at c.put_piece-2.ensures)
    ]
