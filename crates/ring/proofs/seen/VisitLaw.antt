-- A token that is accepted is seen as a visit.
use Prim.Native.Nat.{ℕ, suc}
use mathlib.Core.Path.{◌≡◌, refl, sym, ap, subst, ◌∙◌}
use mathlib.Core.Bool.{true, cond}
use mathlib.Core.List.{List, [], map}
use mathlib.Core.Option.{none, some}
use native.Mathlib.Numerals.{add-one}
use Rattle.frames.specs.Read.{read_of, a_token}
use Rattle.frames.specs.declared.token.Token.{Token}
use Rattle.std.specs.Prelude.{Result}
use Rattle.frames.specs.declared.refusal.Refusal.{Refusal}
use Rattle.frames.specs.declared.reader.Frame.{Frame}
use Rattle.record.specs.Held.{let_go}
use Rattle.record.specs.Ring.{current, ids}
use Rattle.record.specs.declared.Record.{Record}
use Rattle.visit.specs.Deliver.{ring_header, delivered}
use Rattle.visit.specs.Visit.{Visit, log, safe', aru', level', log_now, log', turn', rec', written}
use Rattle.station.specs.Arrive.{accepted}
use Rattle.visit.specs.Within.{frames_in}
use Rattle.visit.specs.Reads.{Each}
use Rattle.visit.specs.Acceptable.{Acceptable}
use Rattle.visit.proofs.VisitFacts.{now-ring, now-ids}
use Rattle.visit.proofs.VisitReads.{visit-reads}
use Rattle.ordering.specs.inner.History as cable
use Rattle.ordering.specs.inner.Visit as visit
use Rattle.ordering.specs.inner.Run as ordered
use Rattle.ring.specs.Calls.{arrival, reply_to}
use Rattle.ring.specs.History as called
use Rattle.ring.specs.History.{next_among, accepts_token}
use Rattle.ring.specs.Newest.{last_of}
use Rattle.ring.proofs.seen.View.{token_in, message_in, seen_token, station_seen, frame_seen, event_seen}
use Rattle.ring.proofs.seen.Law.{Rewrites, Sight, as-visit}
use Rattle.ring.proofs.seen.SeenLaws.{SeenReply, seen_as, station-same}
use Rattle.ring.proofs.seen.FrameLaws.{handed-seen, token-seen}
use Rattle.ring.proofs.seen.VisitMarks.{chosen, level-after, aru-after, safe-after, handed-after, delivered-after, store-after}
use Rattle.ring.proofs.seen.VisitToken.{token-after, resendable-after}
use Rattle.ring.proofs.seen.VisitWritten.{last_written, next-written, rewrites, written_after, allowed}

module _ (v : Visit) (ok : Acceptable v) (frame : List ℕ) where
  abbrev seen_visit : ℕ → ordered.Call
  seen_visit place = ordered.visiting place (seen_token v.token frame) (chosen v)

  -- ---- the station

  ids-after : ids (log' v) ≡ ids (log v)
  unfolding log' let_go delivered
  ids-after = now-ids v ok

  ring-after : ring_header (log' v) ≡ ring_header (log v)
  unfolding log' let_go delivered
  ring-after = now-ring v ok

  level-there : (log' v).level.0 ≡ level' v
  unfolding log' let_go delivered
  level-there = refl

  safe-there : (log' v).safe.0 ≡ safe' v
  unfolding log' let_go
  safe-there = refl

  aru-there : (turn' v).aru.0 ≡ aru' v
  unfolding turn'
  aru-there = refl

  last-after : (turn' v).number.0 ≡ suc v.token.number.0
  unfolding turn'
  last-after = add-one v.token.number.0

  station-after : station_seen (rec' v) ≡ visit.visited (station_seen v.rec) (seen_token v.token frame) (chosen v)
  unfolding rec' station_seen visit.visited
  station-after =
      station-same _ _ _ _ _ _ _ _ _ _ _ _ _ _ _ _ _ _
      ids-after
      refl
      (level-there ∙ sym (level-after v ok frame))
      (safe-there ∙ sym (safe-after v ok frame))
      (delivered-after v ok frame)
      (aru-there ∙ sym (aru-after v ok frame))
      last-after
      (resendable-after v ok frame)
      (store-after v ok frame)

  -- ---- the call

  module _ (read : read_of frame ≡ a_token v.token) where
    pub accepts : accepts_token (some frame) (written v) ≡ true
    accepts =
        ap (λ (r : Result Frame Refusal). next_among r (written v)) read
        ∙ next-written v ok

    forwards : cond (accepts_token (some frame) (written v)) (some (token_in (last_of [] (written v)))) none ≡ some (visit.token_after (station_seen v.rec) (seen_token v.token frame) (chosen v))
    forwards = rw (accepts, last_written v ok, token-after v ok frame)

    hands : map message_in (frames_in (accepted v).deliveries) ≡ visit.handed_after (station_seen v.rec) (seen_token v.token frame) (chosen v)
    unfolding accepted
    hands = handed-seen (log_now v) (safe' v) (visit-reads v ok).delivered.handed ∙ sym (handed-after v ok frame)

    -- what a call did that wrote these frames
    abbrev wrote : ℕ → List (List ℕ) → cable.Event
    wrote place frames =
        record {
          place = place;
          kept = none;
          forwarded = cond (accepts_token (some frame) frames) (some (token_in (last_of [] frames))) none;
          written = map (frame_seen (ring_header (log v))) frames;
          handed = map message_in (frames_in (accepted v).deliveries);
        }

    event-wrote : (place : ℕ) (a b : List ℕ) → event_seen (ring_header (log v)) (record { call = arrival place frame a b; reply = accepted v }) ≡ wrote place (frames_in (accepted v).frames)
    unfolding event_seen called.is_accepted accepted
    event-wrote place a b = refl

    event-after : (place : ℕ) (a b : List ℕ) → event_seen (ring_header (log v)) (record { call = arrival place frame a b; reply = accepted v }) ≡ ordered.event (station_seen v.rec) (seen_visit place)
    unfolding accepted
    event-after place a b =
        event-wrote place a b
        ∙ ap (wrote place) (visit-reads v ok).within
        ∙ rw (forwards, written_after v ok frame, hands)

    seen-visit : (place : ℕ) (a b : List ℕ) → SeenReply v.rec (arrival place frame a b) (accepted v) (seen_visit place)
    unfolding accepted rec'
    seen-visit place a b =
        record {
          at = refl;
          station = station-after;
          event = event-after place a b;
          ring = ring-after;
          written = subst (Each Rewrites) (sym (visit-reads v ok).within) (rewrites v ok);
        }

-- ---- every token that is accepted

pub sight-visit : (r : Record) (place : ℕ) (frame a b : List ℕ) (t : Token)
    → read_of frame ≡ a_token t
    → Acceptable (record { rec = r; token = t })
    → reply_to r (arrival place frame a b) ≡ accepted (record { rec = r; token = t })
    → Sight r (arrival place frame a b)
unfolding station_seen
sight-visit r place frame a b t read ok reply =
    let v : Visit = record { rec = r; token = t } in
    as-visit frame a b (seen_token t frame) (chosen v) refl
    (token-seen (ring_header (current r)) frame t read)
    ok.here
    ok.newer
    (allowed v ok frame)
    (seen_as r (arrival place frame a b) (accepted v) (seen_visit v ok frame place) reply (seen-visit v ok frame read place a b))
