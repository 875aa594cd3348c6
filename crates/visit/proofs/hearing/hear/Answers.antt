use mathlib.Core.Path.{◌≡◌, refl, ap, ◌∙◌}
use borrow.Author.Rules.{rules}
use Rattle.record.specs.inner.Head.{log_on, posts_on, record_in, contents_in}
use Rattle.record.specs.Layout.{log_at}
use Rattle.record.specs.declared.Record.{Record}
use Rattle.record.proofs.PartLaws.{waiting_stays}
use Rattle.visit.specs.declared.hearing.Hearing.TheVariants.{IsKept}
use Rattle.visit.proofs.HearLaws.{marks-most, content-short, own_writable, kept-writable, handed-short, handed-most, leaves-heard, not-had, is-heard, is-heard-kept}
use Rattle.visit.proofs.FrameLaws.{Writable}
use Rattle.visit.proofs.KeptLaws.{just-kept}
use Rattle.visit.proofs.hearing.hear.Goals as goal
use Rattle.visit.proofs.hearing.hear.Goals.{After-keep-kept, Start}

abbrev the-record : Start → Record
the-record c = record_in c.args.h.now c.args.s.now

own : (c : Start) → Writable (the-record c).log
own c = own_writable _ _ _ c.requires.0

pub hearing_of-how-requires : goal.hearing_of-how-requires
hearing_of-how-requires c = (marks-most _ _ _ c.requires.0).0

pub new-requires : goal.new-requires
new-requires c =
    let w = own (goal.at.new-requires c).Start in
    rw c.contents_in.ensures (w.log, w.header)

pub put_heard-requires : goal.put_heard-requires
put_heard-requires c =
    let hands = rw (c.new.ensures.0, c.new.ensures.1, c.contents_in.ensures) at c.hand_out-handed.ensures in
    let w = own (goal.at.put_heard-requires c).Start in
    (handed-short c.args.h.now.log _ _ _ _ hands w, handed-most c.args.h.now.log _ _ _ _ hands w, c.requires.1)

pub returns-then-ne : goal.returns-then-ne
returns-then-ne c =
    let other : c.hearing_of-how.result ≡ IsKept → ⊥ = search rules in
    leaves-heard c.args.h.now c.args.s.now _ c.contents_in.ensures c.args.h.now.log _ _ _ _ _ _ (rw (c.new.ensures.0, c.new.ensures.1) at c.hand_out-handed.ensures) c.put_heard.ensures _
    (is-heard (the-record (goal.at.returns-then-ne c).Start) c.args.m c.args.content.now _ (c.hearing_of-how.ensures _) other)

pub keep-kept-requires : goal.keep-kept-requires
keep-kept-requires c =
    let most = marks-most _ _ _ c.requires.0 in
    (most.0, most.1, c.requires.1, content-short _ _ _ c.requires.0)

is-kept : (c : After-keep-kept) → c.hearing_of-how.result ≡ IsKept
is-kept c = search rules

-- the log once the message is kept
kept : (c : After-keep-kept) → Writable (log_on c.keep-kept.result (contents_in c.keep-kept.new.s log_at))
kept c =
    let not = not-had (record_in c.args.h.now c.args.s.now) c.args.m c.args.content.now _ (c.hearing_of-how.ensures _) (is-kept c) in
    kept-writable (record_in c.args.h.now c.args.s.now) c.args.m c.args.content.now c.requires.0 _ not.0 not.1 c.keep-kept.ensures.0

pub new-requires-2 : goal.new-requires-2
new-requires-2 c =
    let w = kept (goal.at.new-requires-2 c).After-keep-kept in
    rw c.contents_in-2.ensures (w.log, w.header)

pub hand_out_kept-handed-requires : goal.hand_out_kept-handed-requires
hand_out_kept-handed-requires c =
    rw (c.new-2.ensures.0, c.new-2.ensures.1, c.contents_in-2.ensures) (rw c.keep-kept.ensures.0 (just-kept (the-record (goal.at.hand_out_kept-handed-requires c).Start) c.args.m c.args.content.now c.requires.0), c.requires.2)

pub put_heard-requires-2 : goal.put_heard-requires-2
put_heard-requires-2 c =
    let hands = rw (c.new-2.ensures.0, c.new-2.ensures.1, c.contents_in-2.ensures) at c.hand_out_kept-handed.ensures in
    let w = kept (goal.at.put_heard-requires-2 c).After-keep-kept in
    (handed-short c.keep-kept.result _ _ _ _ hands w, handed-most c.keep-kept.result _ _ _ _ hands w, c.keep-kept.auto.s ∙ c.requires.1)

pub returns : goal.returns
returns c =
    let s = c.keep-kept.new.s in
    leaves-heard c.args.h.now s _ c.contents_in-2.ensures c.keep-kept.result _ _ _ _ _ _ (rw (c.new-2.ensures.0, c.new-2.ensures.1) at c.hand_out_kept-handed.ensures) c.put_heard-2.ensures _
    (is-heard-kept (the-record (goal.at.returns c).Start) c.args.m c.args.content.now _ (c.hearing_of-how.ensures _) (is-kept (goal.at.returns c).After-keep-kept)
    (record_in c.args.h.now s) _ (refl, refl, ap (posts_on c.args.h.now.posts) (waiting_stays c.args.s.now s c.keep-kept.ensures.1)) c.keep-kept.ensures.0)
