use mathlib.Core.Path.{◌≡◌, refl, ◌∙◌}
use native.Mathlib.Omega.{arith}
use lib.ListN.{take}
use lib.Seq.{take_all}
use borrow.Author.Rules.{rules}
use Rattle.record.proofs.StrikeLaws.{length-struck, each_goes, each-ends, members-alone}
use Rattle.record.proofs.whole.senders_are_members.Goals as goal

pub loop-id-init : goal.loop-id-init
loop-id-init c = (search rules, refl)

pub loop-id-preserved : goal.loop-id-preserved
loop-id-preserved c =
    let loop = c.loop-id in
    let struck = c.strike.ensures in (
      length-struck _ loop.left _ struck ∙ loop.invariant.0,
      each_goes _ loop.left _ _ _ loop.invariant.1 c.loop-id-test.true struck,
    )

pub returns : goal.returns
returns c =
    let ids = c.args.ids.now in
    let all : take c.min.result ids ≡ ids = take_all c.min.result ids (omega (arith, c.min.ensures, c.requires)) in
    c.all_zero.ensures ∙ rw (each-ends _ _ _ _ c.loop-id.invariant.1 c.loop-id-test.false, all) (members-alone _ _)
