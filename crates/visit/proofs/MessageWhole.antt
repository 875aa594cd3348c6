-- A message that arrives leaves a whole record whole.
use Prim.Native.Nat.{ℕ, ◌+◌, ◌<◌, ◌≤◌}
use mathlib.Core.Path.{◌≡◌, refl, sym, ap}
use mathlib.Core.Bool.{Bool, true, false, cond}
use mathlib.Core.List.{List}
use borrow.Author.Tests.{leb-false, ltb-false}
use native.Mathlib.Omega.{arith}
use lib.ListN.{length-replicate}
use lib.Dec.{leb}
use Rattle.frames.specs.Layout.{longest_token}
use Rattle.frames.specs.Message.{message_follows}
use Rattle.frames.specs.declared.message.Message.{Message}
use Rattle.frames.proofs.Facts.{message-facts}
use Rattle.record.specs.Size.{most_held}
use Rattle.record.specs.Held.{holds, log_with, stored}
use Rattle.record.specs.Members.{is_member}
use Rattle.record.specs.Ring.{current, ids}
use Rattle.record.specs.Whole.{whole}
use Rattle.record.specs.declared.log.Log.{Log}
use Rattle.record.specs.declared.turn.Turn.{Turn}
use Rattle.record.specs.declared.Record.{Record}
use Rattle.record.proofs.ListLaws.{zeros-zero}
use Rattle.record.proofs.MemberLaws.{leave_none}
use Rattle.record.proofs.HeldWhole.{EntryGood}
use Rattle.record.proofs.WholeFacts.{LogGood, TurnGood, whole-good, good-whole, parts-show}
use Rattle.visit.specs.Level.{raised}
use Rattle.visit.specs.Deliver.{delivered}
use Rattle.visit.specs.Message.{is_had, is_ahead, entry_in, log_with_message, resend_ended, rec_heard}
use Rattle.visit.proofs.LevelLaws.{neither, level-low}
use Rattle.visit.proofs.LogSteps.{stored-ready, raised-good, delivered-good}

-- ---- had, ahead, or kept

-- neither had nor ahead: a free number of the window
pub record Free (l : Log) (n : ℕ) : Type 0 where
  pub low : l.safe.0 < n
  pub high : n ≤ l.safe.0 + most_held
  pub free : holds l n ≡ false

pub kept_free : (l : Log) (n : ℕ) → is_had l n ≡ false → is_ahead l n ≡ false → Free l n
unfolding is_had
kept_free l n had ahead =
    let new = neither (leb n l.safe.0) (holds l n) had in
    record { low = leb-false n l.safe.0 new.0; high = ltb-false (l.safe.0 + most_held) n ahead; free = new.1 }

-- what stays, and the level does not fall
pub record Onward (l later : Log) : Type 0 where
  pub rest : later ≡ log_with l later.level l.safe l.delivered later.held
  pub level : l.level.0 ≤ later.level.0
  pub good : LogGood later

module _ (l : Log) (m : Message) (content : List ℕ) (g : LogGood l) (follows : message_follows m content ≡ true) (member : is_member (ids l) m.sender ≡ true) where
  fits : EntryGood (ids l) (entry_in m content)
  fits =
      let f = message-facts m content follows in
      record {
        named = omega (arith, f.sender.low);
        sender = f.sender.high;
        member = member;
        service = f.service;
        short = f.short;
      }

  stays : Onward l l
  stays = record { rest = refl; level = omega arith; good = g }

  kept : Free l m.number.0 → Onward l (raised (stored l m.number.0 (entry_in m content)))
  unfolding raised
  kept new =
      let n = m.number.0 in
      let e = entry_in m content in
      record {
        rest = refl;
        level = level-low (stored l n e);
        good = raised-good (stored l n e) (stored-ready l n e g.ready fits new.free new.low new.high (message-facts m content follows).number.high);
      }

  pub heard-onward : Onward l (log_with_message l m content)
  unfolding log_with_message
  heard-onward = go (is_had l m.number.0) refl (is_ahead l m.number.0) refl
    where
      go : (had : Bool) → is_had l m.number.0 ≡ had → (ahead : Bool) → is_ahead l m.number.0 ≡ ahead
          → Onward l (cond had l (cond ahead l (raised (stored l m.number.0 (entry_in m content)))))
      go true e ahead f = stays
      go false e true f = stays
      go false e false f = kept (kept_free l m.number.0 e f)

-- ---- the leave ends

ended-good : (ring : ℕ) (members : List ℕ) (before level : ℕ) (t : Turn) → TurnGood ring members before t → before ≤ level → TurnGood ring members level (resend_ended t)
unfolding resend_ended
ended-good ring members before level t g rises =
    let r = g.range in
    record {
      range =
          record {
            token-long = length-replicate {A = ℕ} longest_token 0;
            aru = r.aru;
            earlier = r.earlier;
            number = r.number;
            broadcast = r.broadcast;
            stall = r.stall;
            waited = r.waited;
            size = omega arith;
          };
      aru = omega (arith, g.aru);
      earlier = omega (arith, g.earlier);
      leave = sym (leave_none ring members (resend_ended t) refl);
      rest = zeros-zero longest_token 0;
    }

-- ---- the record

pub heard-whole : (r : Record) (m : Message) (content : List ℕ)
    → whole r ≡ true
    → message_follows m content ≡ true
    → is_member (ids (current r)) m.sender ≡ true
    → whole (rec_heard r m content) ≡ true
unfolding delivered
heard-whole r m content w follows member =
    let g = whole-good r w in
    let on = heard-onward r.log m content g.log follows member in
    let l = log_with_message r.log m content in
    let ring : l.ring ≡ r.log.ring = ap (λ (k : Log). k.ring) on.rest in
    let members : ids l ≡ ids r.log = ap (λ (k : Log). ids k) on.rest in
    good-whole (rec_heard r m content)
    (record {
      log = delivered-good l l.safe.0 on.good;
      turn = rw (ring, members) (ended-good r.log.ring.0 (ids r.log) r.log.level.0 l.level.0 r.turn g.turn on.level);
      founded = rw (ring, members) g.founded;
      posts = g.posts;
      posts-rest = g.posts-rest;
      panel = parts-show r (delivered l l.safe.0) (resend_ended r.turn) r.posts;
    })
