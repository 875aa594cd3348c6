use Prim.Native.Nat.{◌+◌}
use mathlib.Core.Path.{◌≡◌, refl}
use native.Mathlib.Omega.{arith}
use Rattle.visit.specs.Visit.{Visit}
use Rattle.visit.specs.inner.Steps.{reach_of, reach_after, visit_of}
use Rattle.visit.specs.declared.marks.Reach.{Reach}
use Rattle.visit.proofs.Forward.{highest-fits, reached, stalled, marked, forwarded}
use Rattle.visit.proofs.sent_visit.SentVisit.forward.Goals as goal
use Rattle.visit.proofs.sent_visit.SentVisit.forward.Goals.{Start}

abbrev the-visit : Start → Visit
the-visit c = visit_of c.args.self.now.visit

reaches : (c : Start) (r : Reach)
    → r ≡ reach_after c.args.self.now.visit.head.now.own c.args.self.now.sent.now.log.level (record { 0 = c.args.self.now.visit.token.now.highest.0 + c.args.self.now.sent.now.added }) c.args.self.now.visit.token.now.aru c.args.self.now.visit.token.now.blocker
    → r ≡ reach_of (the-visit c)
reaches c r e = reached (the-visit c) c.args.self.now.visit.acceptable c.args.self.now.sent.now c.args.self.now.is r _ refl e

pub requests_after-requests-requires : goal.requests_after-requests-requires
requests_after-requests-requires c =
    marked (the-visit (goal.at.requests_after-requests-requires c).Start) c.args.self.now.visit.acceptable _ (reaches (goal.at.requests_after-requests-requires c).Start _ c.reach_after-reach.ensures) _ c.safe_after-safe.ensures

pub token_after-token-requires : goal.token_after-token-requires
token_after-token-requires c =
    (reaches (goal.at.token_after-token-requires c).Start _ c.reach_after-reach.ensures, c.requests_after-requests.ensures)

pub turn_after-turn-requires : goal.turn_after-turn-requires
turn_after-turn-requires c =
    let v = the-visit (goal.at.turn_after-turn-requires c).Start in
    (c.token_after-token.ensures, stalled v c.args.self.now.visit.acceptable _ (reaches (goal.at.turn_after-turn-requires c).Start _ c.reach_after-reach.ensures) _ c.stall_after-stall.ensures)

pub returns : goal.returns
returns c =
    forwarded (the-visit (goal.at.returns c).Start) c.args.self.now.visit.acceptable _ (reaches (goal.at.returns c).Start _ c.reach_after-reach.ensures) _ _ _ _
    c.turn_after-turn.ensures c.safe_after-safe.ensures c.stall_after-stall.ensures c.deaf_after.ensures

pub overflow_add-highest : goal.overflow_add-highest
overflow_add-highest c =
    omega (arith, highest-fits (the-visit (goal.at.overflow_add-highest c).Start) c.args.self.now.visit.acceptable _ c.args.self.now.is)
