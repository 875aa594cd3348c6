use mathlib.Core.Path.{sym, ap, ◌∙◌}
use mathlib.Core.List.{[]}
use mathlib.Core.Bool.{not}
use Rattle.record.specs.Held.{holds}
use Rattle.visit.proofs.ListedLaws.{those-none, those-few, those-takes, those-leaves}
use Rattle.visit.specs.declared.requests.Split.{Split}
use Rattle.visit.proofs.requests.Split.take.Goals as goal
use Rattle.visit.proofs.requests.Split.take.Goals.{then-is_held, else-is_held}

pub loop-n-init : goal.loop-n-init
loop-n-init c = λ contents. (ap (λ (x : Split). x.held) c.requires.2 ∙ those-none _ c.args.requests.now, ap (λ (x : Split). x.rest) c.requires.2 ∙ those-none _ c.args.requests.now)

pub push-requires : goal.push-requires
push-requires c = those-few _ _ _ _ (c.loop-n.invariant []).0 c.loop-n-test.true c.requires.1

pub push-requires-else-is_held : goal.push-requires-else-is_held
push-requires-else-is_held c = those-few _ _ _ _ (c.loop-n.invariant []).1 c.loop-n-test.true c.requires.1

pub loop-n-preserved : goal.loop-n-preserved
unfolding holds
loop-n-preserved c = λ contents.
    let so_far = c.loop-n.invariant contents in
    let more = c.loop-n-test.true in
    let known = sym c.is_held.ensures in
    elim c.if-is_held.branch [
      | then-is_held w ↦ rw w.self-is (
        w.push.ensures ∙ those-takes _ _ _ _ so_far.0 more (known ∙ w.if-is_held.true),
        those-leaves _ _ _ _ so_far.1 more (ap not (known ∙ w.if-is_held.true)),
      )
      | else-is_held w ↦ rw w.self-is (
        those-leaves _ _ _ _ so_far.0 more (known ∙ w.if-is_held.false),
        w.push-else-is_held.ensures ∙ those-takes _ _ _ _ so_far.1 more (ap not (known ∙ w.if-is_held.false)),
      )
    ]
