-- The log after a message, as ordering sees it.
use Rattle.std.specs.Prelude.{Result, Ok}
use Prim.Native.Nat.{ℕ, zero, suc, ◌+◌}
use mathlib.Core.Path.{◌≡◌, refl, sym, ap, ◌∙◌}
use mathlib.Core.Logic.{◌≢◌}
use mathlib.Core.Bool.{Bool, true, false, not, ◌&&◌, cond, and-false}
use mathlib.Core.List.{List}
use borrow.Author.Tests.{leb-true, ltb-true, lt-ltb, le-ltb, le-leb, lt-leb}
use native.Mathlib.Omega.{arith}
use lib.Dec.{leb, ltb}
use Rattle.frames.specs.Message.{content_of}
use Rattle.frames.specs.Read.{read_of, a_message}
use Rattle.frames.specs.declared.message.Message.{Message}
use Rattle.frames.proofs.Facts.{MessageFacts, message-facts}
use Rattle.record.specs.Size.{most_held}
use Rattle.record.specs.Held.{Entry, holds, stored}
use Rattle.record.specs.Ring.{current}
use Rattle.record.specs.declared.log.Log.{Log}
use Rattle.record.specs.declared.Record.{Record}
use Rattle.record.proofs.HeldLaws.{HeldSizes, held-sizes}
use Rattle.record.proofs.WholeFacts.{LogGood, whole-good}
use Rattle.visit.specs.Level.{reached, level_of, raised}
use Rattle.visit.specs.Deliver.{ring_header, frame_with}
use Rattle.visit.specs.Message.{is_had, is_ahead, heard_as, entry_in, log_with_message}
use Rattle.station.specs.declared.answer.Answer.{Answer as Said}
use Rattle.station.specs.declared.refusal.Refusal.{Refusal}
use Rattle.visit.specs.declared.hearing.Hearing.TheVariants.{WasHad, IsAhead, IsKept}
use Rattle.station.specs.Arrive.{heard_answer}
use Rattle.visit.proofs.RingFacts.{header-here}
use Rattle.visit.proofs.LevelLaws.{raised-level}
use Rattle.visit.specs.Acceptable.{Hearable}
use Rattle.visit.proofs.MessageWhole.{Free, kept_free}
use Rattle.ordering.specs.inner.Frame as seen
use Rattle.ordering.specs.inner.Station as abstract
use Rattle.ring.specs.History.{said_kept}
use Rattle.ring.proofs.seen.View.{message_of, message_in, store_of, station_seen}
use Rattle.ring.proofs.seen.Law.{Rewrites}
use Rattle.ring.proofs.seen.StoreLaws.{store_given, store_stored, store-raised, level-same}
use Rattle.ring.proofs.seen.FrameLaws.{message-in, safe-service}

-- ---- what a log has become

pub record After (r : Record) (x : seen.Message) (l : Log) (kept : Bool) : Type 0 where
  pub store : store_of l ≡ abstract.held_with (station_seen r) x
  pub level : l.level.0 ≡ abstract.level_with (station_seen r) x
  pub said : kept ≡ abstract.keeps (station_seen r) x

-- ---- had, ahead or kept

keeps-is : (r : Record) (x : seen.Message) → abstract.keeps (station_seen r) x ≡ (ltb (current r).safe.0 x.number && leb x.number ((current r).safe.0 + most_held) && not (holds (current r) x.number))
unfolding abstract.keeps station_seen
keeps-is r x = rw (store_given (current r) x.number)

-- held or not
had-not-kept : (l : Log) (n : ℕ) → is_had l n ≡ true → (ltb l.safe.0 n && leb n (l.safe.0 + most_held) && not (holds l n)) ≡ false
unfolding is_had
had-not-kept l n e = go (leb n l.safe.0) refl
  where
    go : (b : Bool) → leb n l.safe.0 ≡ b → (ltb l.safe.0 n && leb n (l.safe.0 + most_held) && not (holds l n)) ≡ false
    go true f = rw (le-ltb l.safe.0 n (leb-true n l.safe.0 f))
    go false f =
        let held : holds l n ≡ true = rw f at e in
        simp (held, and-false)

ahead-not-kept : (l : Log) (n : ℕ) → is_ahead l n ≡ true → (ltb l.safe.0 n && leb n (l.safe.0 + most_held) && not (holds l n)) ≡ false
ahead-not-kept l n e = simp (lt-leb n (l.safe.0 + most_held) (ltb-true (l.safe.0 + most_held) n e), and-false)

free-kept : (l : Log) (n : ℕ) → Free l n → (ltb l.safe.0 n && leb n (l.safe.0 + most_held) && not (holds l n)) ≡ true
free-kept l n f = rw (lt-ltb l.safe.0 n f.low, le-leb n (l.safe.0 + most_held) f.high, f.free)

reached-stays : (has : ℕ → Bool) (most level : ℕ) → has (suc level) ≡ false → reached has most level ≡ level
unfolding reached
reached-stays has zero level e = refl
reached-stays has (suc most) level e = rw e

-- ---- the message, as it is held

module _ (r : Record) (frame : List ℕ) (m : Message) (read : read_of frame ≡ a_message m) (h : Hearable r m (content_of frame)) (rewrites : Rewrites frame) where
  abbrev l : Log
  l = current r

  abbrev n : ℕ
  n = m.number.0

  abbrev e : Entry
  e = entry_in m (content_of frame)

  abbrev x : seen.Message
  x = message_in frame

  facts : LogGood l
  facts = (whole-good r h.whole_record).log

  values : MessageFacts m (content_of frame)
  values = message-facts m (content_of frame) h.follows

  pub same-header : ring_header l ≡ m.header
  same-header = header-here l m.header h.of_this_ring

  -- the frame that is held is the one that came
  same-frame : frame_with l n e ≡ frame
  unfolding frame_with
  same-frame = rw same-header (rewrites m read)

  same-message : message_of l n e ≡ x
  same-message =
      message-same' (sym (safe-service m.service values.service)) same-frame ∙ sym (message-in frame m read)
    where
      message-same' : {safe safe' : Bool} {text text' : List ℕ} → safe ≡ safe' → text ≡ text' → ◌≡◌ {A = seen.Message} (record { number = n; safe = safe; text = text }) (record { number = n; safe = safe'; text = text' })
      message-same' e f = rw (e, f)

  numbered : x.number ≡ n
  numbered = ap (λ (y : seen.Message). y.number) (message-in frame m read)

  keeps_here : abstract.keeps (station_seen r) x ≡ (ltb l.safe.0 n && leb n (l.safe.0 + most_held) && not (holds l n))
  keeps_here = rw (← numbered) (keeps-is r x)

  -- ---- not kept: nothing changes

  module _ (not-kept : abstract.keeps (station_seen r) x ≡ false) where
    store-stays : store_of l ≡ abstract.held_with (station_seen r) x
    unfolding station_seen
    store-stays = rw not-kept

    level-stays : level_of l ≡ l.level.0
    unfolding level_of
    level-stays = reached-stays (holds l) most_held l.level.0 facts.next

    level-here : l.level.0 ≡ abstract.level_with (station_seen r) x
    unfolding station_seen
    level-here = sym level-stays ∙ sym (level-same l l.level.0 refl) ∙ ap (λ (k : abstract.Store). abstract.level_of k l.level.0) store-stays

    pub after-skipped : After r x l false
    after-skipped = record { store = store-stays; level = level-here; said = sym not-kept }

  -- ---- kept

  module _ (free : Free l n) where
    is-kept : abstract.keeps (station_seen r) x ≡ true
    is-kept = keeps_here ∙ free-kept l n free

    sizes : HeldSizes l.held
    sizes = held-sizes l.held facts.ready.stock.held.range

    named : e.sender ≢ 0
    named q = omega (arith, values.sender.low)

    store_kept : store_of (stored l n e) ≡ abstract.held_with (station_seen r) x
    unfolding station_seen
    store_kept =
        store_stored l n e sizes free.low free.high named values.short
        ∙ ap (λ (y : seen.Message). abstract.put y (store_of l)) same-message
        ∙ rw is-kept

    level-kept : (raised (stored l n e)).level.0 ≡ abstract.level_with (station_seen r) x
    unfolding station_seen
    level-kept =
        raised-level (stored l n e)
        ∙ sym (level-same (stored l n e) l.level.0 refl)
        ∙ ap (λ (k : abstract.Store). abstract.level_of k l.level.0) store_kept

    pub after_kept : After r x (raised (stored l n e)) true
    after_kept = record { store = store-raised (stored l n e) ∙ store_kept; level = level-kept; said = sym is-kept }

  -- ---- whichever it is

  abbrev said : ℕ → Result Said Refusal
  said k = Ok (heard_answer (heard_as l n WasHad IsAhead IsKept) k)

  pub heard-log : (k : ℕ) → After r x (log_with_message l m (content_of frame)) (said_kept (said k))
  unfolding log_with_message
  heard-log k = go (is_had l n) (is_ahead l n) refl refl
    where
      go : (had ahead : Bool) → is_had l n ≡ had → is_ahead l n ≡ ahead
          → After r x (cond had l (cond ahead l (raised (stored l n e)))) (said_kept (Ok (heard_answer (cond had WasHad (cond ahead IsAhead IsKept)) k)))
      go true ahead f g = after-skipped (keeps_here ∙ had-not-kept l n f)
      go false true f g = after-skipped (keeps_here ∙ ahead-not-kept l n g)
      go false false f g = after_kept (kept_free l n f g)
