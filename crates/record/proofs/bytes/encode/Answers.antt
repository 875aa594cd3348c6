use mathlib.Core.Path.{ap}
use native.Mathlib.Omega.{arith}
use borrow.Author.Rules.{rules}
use Rattle.record.specs.inner.Head.{record_showing}
use Rattle.record.specs.declared.head.Head.{Head}
use Rattle.record.proofs.Arrays.{RecordArrays}
use Rattle.record.proofs.PutLaws.{encoded}
use Rattle.record.proofs.bytes.encode.Goals as goal
use Rattle.record.proofs.bytes.encode.Goals.{Start}

arrays : (c : Start) → RecordArrays c.args.r
arrays c =
    record {
      log = record { members = search rules; held = search rules };
      token = search rules;
      posts = search rules;
    }

pub slice_bounds-put_slice-end : goal.slice_bounds-put_slice-end
slice_bounds-put_slice-end c = let long = (arrays (goal.at.slice_bounds-put_slice-end c).Start).log.held.contents in search rules

pub slice_bounds-put_slice-end-2 : goal.slice_bounds-put_slice-end-2
slice_bounds-put_slice-end-2 c = let long = (arrays (goal.at.slice_bounds-put_slice-end-2 c).Start).posts.contents in search rules

pub put_slice-requires : goal.put_slice-requires
put_slice-requires c = omega (arith, (arrays (goal.at.put_slice-requires c).Start).log.held.contents, c.requires)

pub put_slice-requires-2 : goal.put_slice-requires-2
put_slice-requires-2 c = omega (arith, (arrays (goal.at.put_slice-requires-2 c).Start).posts.contents, c.requires)

pub put_showing-requires : goal.put_showing-requires
put_showing-requires c = omega (arith, c.requires, c.put_slice.auto.out, c.put_slice-2.auto.out)

pub returns : goal.returns
returns c =
    let r = c.args.r in
    encoded _ _ _ _ _ _ _ _ _ (arrays (goal.at.returns c).Start).log.held.contents (arrays (goal.at.returns c).Start).posts.contents c.requires c.put_slice.ensures c.put_slice-2.ensures
    (ap (λ (h : Head). record_showing r.panel h r.log.held.contents r.posts.contents) c.from.ensures) c.put_showing.ensures
