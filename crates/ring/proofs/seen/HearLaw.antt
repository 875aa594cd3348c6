-- An arrival: a message that is heard, a refusal, or a token that is accepted.
use Rattle.std.specs.Prelude.{Ok}
use Prim.Native.Nat.{ℕ, ◌+◌, ◌-◌}
use mathlib.Core.Path.{◌≡◌, refl, sym, ap, ◌∙◌}
use mathlib.Core.Bool.{cond}
use mathlib.Core.List.{List, [], map}
use mathlib.Core.Option.{none, some}
use lib.ListN.{length, length-map}
use Rattle.frames.specs.Message.{content_of}
use Rattle.frames.specs.Read.{read_of, unread_as, a_message, a_token}
use Rattle.frames.specs.declared.message.Message.{Message}
use Rattle.frames.specs.declared.refusal.Refusal.{Refusal as Unread}
use Rattle.frames.specs.declared.token.Token.{Token}
use Rattle.record.specs.Ring.{current, ids}
use Rattle.record.specs.declared.log.Log.{Log}
use Rattle.record.specs.declared.turn.Turn.{Turn}
use Rattle.record.specs.declared.Record.{Record}
use Rattle.record.proofs.WholeFacts.{whole-good}
use Rattle.visit.specs.Deliver.{ring_header, due, handed_out, delivered}
use Rattle.visit.specs.Message.{heard_as, resend_ended, log_with_message}
use Rattle.station.specs.Arrive.{message_heard}
use Rattle.station.specs.Arrive.{arrived}
use Rattle.visit.specs.Within.{frames_in}
use Rattle.station.specs.Arrive.{accepted}
use Rattle.visit.specs.Reads.{Each, HeldReads}
use Rattle.visit.specs.Acceptable.{Acceptable, Hearable, visit}
use Rattle.station.specs.EveryArrival.{ArrivedCase, refuses, hears, accepts}
use Rattle.visit.specs.declared.hearing.Hearing.TheVariants.{WasHad, IsAhead, IsKept}
use Rattle.station.specs.Arrive.{heard_answer}
use Rattle.station.proofs.ArrivedCases.{arrived-case}
use Rattle.visit.proofs.FrameLaws.{heard-reads}
use Rattle.visit.proofs.MessageWhole.{Onward, heard-onward}
use Rattle.ordering.specs.inner.Frame as seen
use Rattle.ordering.specs.inner.Station as abstract
use Rattle.ordering.specs.inner.Run as ordered
use Rattle.ring.specs.Calls.{arrival, reply_to}
use Rattle.ring.specs.History.{said_kept}
use Rattle.ring.proofs.seen.View.{station_seen, frame_seen, message_in, resendable_of}
use Rattle.ring.proofs.seen.Law.{Rewrites, Sight, as-hearing}
use Rattle.ring.proofs.seen.StoreLaws.{message_held, store-delivered, good-held, due-same}
use Rattle.ring.proofs.seen.SeenLaws.{SeenReply, seen_as, no_frames, event-unwritten, event-same, station-same}
use Rattle.ring.proofs.seen.QuietLaw.{sight-refused}
use Rattle.ring.proofs.seen.FrameLaws.{same-itself, frame-message, handed-seen, message-not-token, unread-not-message, unread-not-token}
use Rattle.ring.proofs.seen.HeardLog.{After, heard-log, same-header}

resend-ended : (t : Turn) → resendable_of (resend_ended t) ≡ none
unfolding resendable_of resend_ended
resend-ended t = refl

-- ---- the same from equal parts

due-alike : {h k : abstract.Store} {safe safe' level level' d d' : ℕ} → h ≡ k → safe ≡ safe' → level ≡ level' → d ≡ d' → abstract.due k safe' (level' - d') d' ≡ abstract.due h safe (level - d) d
due-alike e f g i = rw (e, f, g, i)

marks-alike : {a b c d : ℕ} → a ≡ b → c ≡ d → a + c ≡ b + d
marks-alike e f = rw (e, f)

-- ---- a message that is heard

pub heard-unwritten : (r : Record) (m : Message) (content : List ℕ) → (message_heard r m content).frames ≡ []
unfolding message_heard
heard-unwritten r m content = refl

module _ (r : Record) (place : ℕ) (frame a b : List ℕ) (m : Message) (read : read_of frame ≡ a_message m) (h : Hearable r m (content_of frame)) (rewrites : Rewrites frame) where
  abbrev l : Log
  l = log_with_message (current r) m (content_of frame)

  abbrev x : seen.Message
  x = message_in frame

  abbrev out : List ℕ
  out = handed_out l l.safe.0

  after : After r x l (said_kept (Ok (heard_answer (heard_as (current r) m.number.0 WasHad IsAhead IsKept) (length out))))
  after = heard-log r frame m read h rewrites (length out)

  onward : Onward (current r) l
  onward = heard-onward (current r) m (content_of frame) (whole-good r h.whole_record).log h.follows h.member

  safe-same : l.safe.0 ≡ (current r).safe.0
  safe-same = ap (λ (k : Log). k.safe.0) onward.rest

  delivered-same : l.delivered.0 ≡ (current r).delivered.0
  delivered-same = ap (λ (k : Log). k.delivered.0) onward.rest

  reads : Each (HeldReads l) (due l l.safe.0)
  reads = (heard-reads r m (content_of frame) h).handed

  -- what is due
  handed : abstract.handed_with (station_seen r) x ≡ map (message_held l) (due l l.safe.0)
  unfolding abstract.handed_with station_seen
  handed = due-alike after.store safe-same after.level delivered-same ∙ due-same l l.safe.0 (good-held l onward.good)

  counted : length (due l l.safe.0) ≡ length (abstract.handed_with (station_seen r) x)
  counted = sym (ap length handed ∙ length-map (due l l.safe.0) (message_held l))

  heard-station : station_seen (message_heard r m (content_of frame)).rec ≡ abstract.heard (station_seen r) x
  unfolding station_seen message_heard delivered resend_ended abstract.heard
  heard-station =
      station-same _ _ _ _ _ _ _ _ _ _ _ _ _ _ _ _ _ _
      (ap (λ (k : Log). ids k) onward.rest)
      refl
      after.level
      safe-same
      (marks-alike delivered-same counted)
      refl
      refl
      (resend-ended r.turn)
      (store-delivered l l.safe.0 ∙ after.store)

  heard-kept : cond (said_kept (message_heard r m (content_of frame)).answer) (some x) none ≡ cond (abstract.keeps (station_seen r) x) (some x) none
  unfolding message_heard
  heard-kept = rw after.said

  heard-handed : map message_in (frames_in (message_heard r m (content_of frame)).deliveries) ≡ abstract.handed_with (station_seen r) x
  unfolding message_heard
  heard-handed = handed-seen l l.safe.0 reads ∙ sym handed

  heard-ring : ring_header (current (message_heard r m (content_of frame)).rec) ≡ ring_header (current r)
  unfolding message_heard delivered
  heard-ring = ap (λ (k : Log). ring_header k) onward.rest

  seen-heard : SeenReply r (arrival place frame a b) (message_heard r m (content_of frame)) (ordered.hearing place x)
  seen-heard =
      record {
        at = refl;
        station = heard-station;
        event =
            event-unwritten (ring_header (current r)) (arrival place frame a b) (message_heard r m (content_of frame)) (heard-unwritten r m (content_of frame))
            ∙ event-same place _ _ [] _ _ heard-kept heard-handed;
        ring = heard-ring;
        written = rw (heard-unwritten r m (content_of frame), no_frames) tt;
      }

  heard-frame : frame_seen (ring_header (current r)) frame ≡ seen.message x
  heard-frame = frame-message (ring_header (current r)) frame m read (rw (← (same-header r frame m read h rewrites)) (same-itself (ring_header (current r))))

  pub sight-heard : reply_to r (arrival place frame a b) ≡ message_heard r m (content_of frame) → Sight r (arrival place frame a b)
  sight-heard e =
      as-hearing frame a b x refl heard-frame
      (seen_as r (arrival place frame a b) (message_heard r m (content_of frame)) (ordered.hearing place x) e seen-heard)

-- ---- every arrival, once it is known how a token that is accepted is seen

pub sight-arrival : (r : Record) (place : ℕ) (frame a b : List ℕ)
    → Rewrites frame
    → ((t : Token) → read_of frame ≡ a_token t → Acceptable (visit r t) → reply_to r (arrival place frame a b) ≡ accepted (visit r t) → Sight r (arrival place frame a b))
    → Sight r (arrival place frame a b)
sight-arrival r place frame a b rewrites visits = go (arrived-case r frame (length a) (length b))
  where
    go : ArrivedCase r frame (arrived r frame (length a) (length b)) → Sight r (arrival place frame a b)
    go (refuses why e) = sight-refused r (arrival place frame a b) why e
    go (hears m e h f) = sight-heard r place frame a b m e h rewrites f
    go (accepts t e h f) = visits t e h f

-- of a message
pub sight-message : (r : Record) (place : ℕ) (frame a b : List ℕ) (m : Message) → read_of frame ≡ a_message m → Rewrites frame → Sight r (arrival place frame a b)
sight-message r place frame a b m read rewrites = sight-arrival r place frame a b rewrites (λ t e h f. absurd (message-not-token m t (sym read ∙ e)))

-- of what the reader refuses
pub sight-unread : (r : Record) (place : ℕ) (frame a b : List ℕ) (why : Unread) → read_of frame ≡ unread_as why → Sight r (arrival place frame a b)
sight-unread r place frame a b why read =
    sight-arrival r place frame a b
    (λ m e. absurd (unread-not-message why m (sym read ∙ e)))
    (λ t e h f. absurd (unread-not-token why t (sym read ∙ e)))
