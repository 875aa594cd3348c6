use Prim.Native.Nat.{◌+◌, ◌-◌, ◌≤◌}
use mathlib.Core.Path.{◌≡◌}
use native.Mathlib.Omega.{arith}
use lib.ListN.{length, drop, length-take, length-drop}
use Rattle.frames.specs.Layout.{longest_token}
use Rattle.record.specs.inner.Head.{log_on, record_in, contents_in}
use Rattle.record.specs.Layout.{log_at}
use Rattle.record.specs.Turn.{remembered}
use Rattle.visit.specs.Visit.{Visit, log_now}
use Rattle.visit.specs.Acceptable.{visit}
use Rattle.visit.proofs.PutFrames.{part-put}
use Rattle.visit.proofs.Finish.{place-ready, placed, run-ready, token-room, token-fits, remembered-room, all-size, all-behind}
use Rattle.visit.proofs.visiting.send_new.Goals as goal
use Rattle.visit.proofs.visiting.send_new.Goals.{After-place_new, After-put_run-at, Start}

abbrev the-visit : Start → Visit
the-visit c = visit (record_in c.args.h.now c.args.s.now) c.args.t.now

pub place_new-requires : goal.place_new-requires
place_new-requires c =
    let ready = place-ready (the-visit (goal.at.place_new-requires c).Start) c.requires.0 _ c.requires.1 in
    (c.requires.3, ready.0, ready.1, ready.2)

pub contents_in-requires : goal.contents_in-requires
contents_in-requires c = omega (arith, c.place_new.auto.s, c.requires.3)

-- the log that is held once the contents have moved
moved : (c : After-place_new) → log_on c.args.b.now.log (contents_in c.place_new.new.s log_at) ≡ log_now (visit (record_in c.args.h.now c.args.s.now) c.args.t.now)
moved c = placed (visit (record_in c.args.h.now c.args.s.now) c.args.t.now) c.requires.0 _ c.requires.1 _ c.place_new.ensures.0

pub new-log-requires : goal.new-log-requires
new-log-requires c =
    let ready = run-ready (the-visit (goal.at.new-log-requires c).Start) c.requires.0 _ c.requires.1 _ (moved (goal.at.new-log-requires c).After-place_new) _ c.requires.4 in
    rw c.contents_in.ensures (ready.0, ready.1)

pub put_run-at-requires : goal.put_run-at-requires
put_run-at-requires c =
    let ready = run-ready (the-visit (goal.at.put_run-at-requires c).Start) c.requires.0 _ c.requires.1 _ (moved (goal.at.put_run-at-requires c).After-place_new) _ c.requires.4 in
    rw (c.new-log.ensures.0, c.new-log.ensures.1, c.contents_in.ensures) (ready.2, ready.3, ready.4)

room : (c : After-put_run-at) → c.put_run-at.result + longest_token ≤ length c.put_run-at.new.out
room c =
    token-room (visit (record_in c.args.h.now c.args.s.now) c.args.t.now) c.requires.0 _ c.requires.1 _ (placed (visit (record_in c.args.h.now c.args.s.now) c.args.t.now) c.requires.0 _ c.requires.1 _ c.place_new.ensures.0) _ _ _ (rw (c.new-log.ensures.0, c.new-log.ensures.1, c.contents_in.ensures) at c.put_run-at.ensures) c.requires.4

pub slice_bounds-put_remembered-start : goal.slice_bounds-put_remembered-start
slice_bounds-put_remembered-start c = omega (arith, room (goal.at.slice_bounds-put_remembered-start c).After-put_run-at)

pub put_remembered-requires : goal.put_remembered-requires
put_remembered-requires c =
    let out = c.put_run-at.new.out in
    let at = c.put_run-at.result in (
      token-fits (the-visit (goal.at.put_remembered-requires c).Start) c.requires.0 _ c.requires.1 _ (moved (goal.at.put_remembered-requires c).After-place_new) _ _ _ (rw (c.new-log.ensures.0, c.new-log.ensures.1, c.contents_in.ensures) at c.put_run-at.ensures) _ c.requires.2,
      omega (arith, room (goal.at.put_remembered-requires c).After-put_run-at, length-take (length out - at) (drop at out), length-drop at out),
    )

pub overflow_add-result : goal.overflow_add-result
overflow_add-result c =
    omega (arith, room (goal.at.overflow_add-result c).After-put_run-at, token-fits (the-visit (goal.at.overflow_add-result c).Start) c.requires.0 _ c.requires.1 _ (moved (goal.at.overflow_add-result c).After-place_new) _ _ _ (rw (c.new-log.ensures.0, c.new-log.ensures.1, c.contents_in.ensures) at c.put_run-at.ensures) _ c.requires.2)

pub returns : goal.returns
returns c =
    let v = the-visit (goal.at.returns c).Start in
    let puts = rw (c.new-log.ensures.0, c.new-log.ensures.1, c.contents_in.ensures) at c.put_run-at.ensures in (
      all-size v c.requires.0 _ c.requires.1 _ (moved (goal.at.returns c).After-place_new) _ _ _ puts _ c.requires.2,
      moved (goal.at.returns c).After-place_new,
      c.place_new.ensures.1,
      all-behind v c.requires.0 _ c.requires.1 _ (moved (goal.at.returns c).After-place_new) _ _ _ puts _ c.requires.2 _
          (part-put (remembered c.args.f.now.turn) _ _ _ (remembered-room v c.requires.0 _ c.requires.1 _ (moved (goal.at.returns c).After-place_new) _ _ _ puts _ c.requires.2 c.requires.4) c.put_remembered.ensures),
    )

pub slice_bounds-put_remembered-count : goal.slice_bounds-put_remembered-count
slice_bounds-put_remembered-count c = omega (arith, room (goal.at.slice_bounds-put_remembered-count c).After-put_run-at)
