use Prim.Native.Nat.{ℕ}
use native.Mathlib.Omega.{arith}
use lib.ListN.{length-replicate}
use Rattle.record.specs.Size.{held_contents, post_contents}
use Rattle.record.proofs.PutLaws.{encoded}
use Rattle.record.proofs.bytes.put_fresh.Goals as goal

pub put_showing-requires : goal.put_showing-requires
put_showing-requires c = omega (arith, c.requires.0, c.put_slice.auto.out, c.put_slice-2.auto.out)

pub returns : goal.returns
returns c =
    encoded _ _ _ _ _ c.args.out.now _ _ _ (length-replicate {A = ℕ} held_contents 0) (length-replicate {A = ℕ} post_contents 0) c.requires.0
    c.put_slice.ensures c.put_slice-2.ensures c.fresh_head.ensures c.put_showing.ensures
