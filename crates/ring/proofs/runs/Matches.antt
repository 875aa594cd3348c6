-- A ring and the ring as ordering sees it go on together: each call is seen as a call.
use Prim.Native.Nat.{ℕ, ◌<◌}
use mathlib.Core.Path.{◌≡◌, sym, ◌∙◌, ap, subst}
use mathlib.Core.Bool.{Bool, true, false, cond}
use mathlib.Core.List.{List, [], ◌∷◌, map}
use mathlib.Core.Logic.{◌⊎◌, inl, inr}
use mathlib.Core.Option.{some}
use lib.Dec.{eqb}
use Rattle.frames.specs.declared.header.Header.{Header}
use Rattle.record.specs.Ring.{current}
use Rattle.visit.specs.Deliver.{ring_header}
use Rattle.ordering.specs.inner.Frame as seen
use Rattle.ordering.specs.Lists.{Among}
use Rattle.ordering.specs.inner.Station.{Station}
use Rattle.ordering.specs.inner.Visit.{Allowed}
use Rattle.ordering.specs.inner.History.{OnCable as OnCableSeen, Event as EventSeen}
use Rattle.ordering.specs.inner.Run as ordered
use Rattle.record.specs.declared.Record.{Record}
use Rattle.ring.specs.Calls.{Call, post, arrival, resending, station_of, reply_to}
use Rattle.ring.specs.History.{Event, Written, place, written_by, written_at, written_in, OnCable, is_accepted}
use Rattle.ring.specs.Run.{Ring, update, step, run, structs}
use Rattle.ring.specs.Demand.{Handed}
use Rattle.ring.proofs.runs.Going.{Possible, AcceptedIn}
use Rattle.ring.specs.Newest.{last_of}
use Rattle.ring.proofs.seen.View.{frame_seen, station_seen, event_seen, token_in}
use Rattle.ring.proofs.seen.Law.{Rewrites, HandedRewrites, Law, SeenAs, Sight, as_quiet, as-resending, as-hearing, as-visit}
use Rattle.ring.proofs.Lists.{among-map, among-back, among-join, each-among, ⊎_map}
use Rattle.ring.proofs.seen.HistorySeen.{written_seen, written-seen}

abbrev pub event_of : Ring Record → Call → Event
event_of s c = record { call = c; reply = reply_to (s.at (station_of c)) c }

module _ (law : Law) (size : ℕ) (ring : Header) (first : List ℕ) (founding_token : seen.Token) (starts : frame_seen ring first ≡ seen.token founding_token) where
  pub record Matches (s : Ring Record) (o : ordered.Ring) : Type 0 where
    pub stations : (p : ℕ) → p < size → station_seen (s.at p) ≡ o.at p
    pub history : map (event_seen ring) s.history ≡ o.history
    pub rings : (p : ℕ) → p < size → ring_header (current (s.at p)) ≡ ring
    pub cable : (f : List ℕ) → OnCable (first ∷ []) s.history f → Rewrites f

  -- a call and what it is seen as
  pub record Stepped (s : Ring Record) (o : ordered.Ring) (c : Call) : Type 0 where
    pub call : ordered.Call
    pub place : ordered.station_of call ≡ station_of c
    pub possible : ordered.Possible size founding_token o call
    pub matches : Matches (step structs s c) (ordered.step o call)
    pub event : event_seen ring (event_of s c) ≡ ordered.event (o.at (station_of c)) call

  -- ---- on the cable

  on-cable : (history : List Event) (f : List ℕ) → OnCable (first ∷ []) history f → OnCableSeen founding_token (map (event_seen ring) history) (frame_seen ring f)
  on-cable history f (inl (inl e)) = inl (ap (frame_seen ring) e ∙ starts)
  on-cable history f (inl (inr none)) = absurd none
  on-cable history f (inr h) =
      inr (h.0, subst (λ ws. Among (written_seen ring (written_at h.0 f)) ws) (sym (written-seen ring history)) (among-map (written_seen ring) (written_at h.0 f) (written_in history) h.1))

  new-cable : (s : Ring Record) (o : ordered.Ring) (c : Call) (d : ordered.Call) → Matches s o → SeenAs (s.at (station_of c)) c d → (f : List ℕ) → OnCable (first ∷ []) (step structs s c).history f → Rewrites f
  unfolding step written_in
  new-cable s o c d m k f (inl e) = m.cable f (inl e)
  new-cable s o c d m k f (inr h) = by_end (among-join (written_at h.0 f) (written_in s.history) (map (written_at (station_of c)) (written_by (event_of s c))) h.1)
    where
      by_end : Among (written_at h.0 f) (written_in s.history) ⊎ Among (written_at h.0 f) (map (written_at (station_of c)) (written_by (event_of s c))) → Rewrites f
      by_end (inl a) = m.cable f (inr (h.0, a))
      by_end (inr a) =
          let b = among-back (written_at (station_of c)) (written_at h.0 f) (written_by (event_of s c)) a in
          subst Rewrites (ap (λ (w : Written). w.frame) b.2) (each-among Rewrites b.0 (written_by (event_of s c)) k.written b.1)

  -- ---- a call

  module _ (s : Ring Record) (o : ordered.Ring) (c : Call) (d : ordered.Call) (m : Matches s o) (here : station_of c < size) (k : SeenAs (s.at (station_of c)) c d) where
    new-station : (q : ℕ) → q < size → station_seen ((step structs s c).at q) ≡ (ordered.step o d).at q
    unfolding step ordered.step update ordered.update
    new-station q h =
        subst
        (λ p. station_seen (cond (eqb q (station_of c)) (reply_to (s.at (station_of c)) c).rec (s.at q)) ≡ cond (eqb q p) (ordered.moved (o.at p) d) (o.at q))
        (sym k.at)
        (by_place (eqb q (station_of c)))
      where
        by_place : (b : Bool) → station_seen (cond b (reply_to (s.at (station_of c)) c).rec (s.at q)) ≡ cond b (ordered.moved (o.at (station_of c)) d) (o.at q)
        by_place true = k.station ∙ ap (λ (t : Station). ordered.moved t d) (m.stations (station_of c) here)
        by_place false = m.stations q h

    new-ring : (q : ℕ) → q < size → ring_header (current ((step structs s c).at q)) ≡ ring
    unfolding step update
    new-ring q h = by_place (eqb q (station_of c))
      where
        by_place : (b : Bool) → ring_header (current (cond b (reply_to (s.at (station_of c)) c).rec (s.at q))) ≡ ring
        by_place true = k.ring ∙ m.rings (station_of c) here
        by_place false = m.rings q h

    new-event : event_seen ring (event_of s c) ≡ ordered.event (o.at (station_of c)) d
    new-event =
        ap (λ (h : Header). event_seen h (event_of s c)) (sym (m.rings (station_of c) here))
        ∙ k.event
        ∙ ap (λ (t : Station). ordered.event t d) (m.stations (station_of c) here)

    new-history : map (event_seen ring) (step structs s c).history ≡ (ordered.step o d).history
    unfolding step ordered.step
    new-history =
        ap (λ e. e ∷ map (event_seen ring) s.history) (new-event ∙ ap (λ p. ordered.event (o.at p) d) (sym k.at))
        ∙ ap (λ l. ordered.event (o.at (ordered.station_of d)) d ∷ l) m.history

    stepped : ordered.Possible size founding_token o d → Stepped s o c
    stepped possible =
        record {
          call = d;
          place = k.at;
          possible = possible;
          matches = record { stations = new-station; history = new-history; rings = new-ring; cable = new-cable s o c d m k };
          event = new-event;
        }

  handed-rewrites : (s : Ring Record) (o : ordered.Ring) (c : Call) → Matches s o → Handed (first ∷ []) s.history c → HandedRewrites c
  handed-rewrites s o (post place service content) m h = tt
  handed-rewrites s o (arrival place frame frames deliveries) m h = m.cable frame h
  handed-rewrites s o (resending place frames) m h = tt

  -- the frame of an arrival, as it is seen, is on the cable
  seen-on-cable : (s : Ring Record) (o : ordered.Ring) (c : Call) (frame a b : List ℕ) (f : seen.Frame)
      → Matches s o
      → station_of c < size
      → Handed (first ∷ []) s.history c
      → c ≡ arrival (station_of c) frame a b
      → frame_seen (ring_header (current (s.at (station_of c)))) frame ≡ f
      → OnCableSeen founding_token o.history f
  seen-on-cable s o c frame a b f m here h is e =
      let handed : OnCable (first ∷ []) s.history frame = subst (Handed (first ∷ []) s.history) is h in
      let same : frame_seen ring frame ≡ f = ap (λ (r : Header). frame_seen r frame) (sym (m.rings (station_of c) here)) ∙ e in
      subst (λ l. OnCableSeen founding_token l f) m.history (subst (OnCableSeen founding_token (map (event_seen ring) s.history)) same (on-cable s.history frame handed))

  step-seen : (s : Ring Record) (o : ordered.Ring) (c : Call) → Matches s o → station_of c < size → Handed (first ∷ []) s.history c → Sight (s.at (station_of c)) c → Stepped s o c
  step-seen s o c m here h (as_quiet k) = stepped s o c (ordered.quiet (station_of c)) m here k here
  step-seen s o c m here h (as-resending k) = stepped s o c (ordered.resending (station_of c)) m here k here
  step-seen s o c m here h (as-hearing frame a b x is e k) =
      stepped s o c (ordered.hearing (station_of c) x) m here k (here, seen-on-cable s o c frame a b (seen.message x) m here h is e)
  step-seen s o c m here h (as-visit frame a b t choice is e addressed newer allowed k) =
      let same = m.stations (station_of c) here in
      stepped s o c (ordered.visiting (station_of c) t choice) m here k (
        here,
        seen-on-cable s o c frame a b (seen.token t) m here h is e,
        addressed ∙ ap (λ (x : Station). x.own) same,
        subst (λ (x : Station). x.last < t.number) same newer,
        subst (λ (x : Station). Allowed x t choice) same allowed,
      )

  pub step-law : (s : Ring Record) (o : ordered.Ring) (c : Call) → Matches s o → station_of c < size → Handed (first ∷ []) s.history c → Stepped s o c
  step-law s o c m here h = step-seen s o c m here h (law (s.at (station_of c)) c (handed-rewrites s o c m h))

  -- ---- a list of calls

  pub record Followed (s : Ring Record) (o : ordered.Ring) (cs : List Call) : Type 0 where
    pub calls : List ordered.Call
    pub possible : ordered.AllPossible size founding_token o calls
    pub matches : Matches (run structs s cs) (ordered.run o calls)
    pub accepts : (p : ℕ) → AcceptedIn p s cs → ordered.AcceptedIn p o calls

  -- an accepted token is forwarded
  forwarded : (e : Event) → is_accepted e ≡ true → (t : seen.Token) × ((event_seen ring e).forwarded ≡ some t)
  unfolding event_seen
  forwarded e h = (token_in (last_of [] (written_by e)), rw h)

  accepted-here : (s : Ring Record) (o : ordered.Ring) (c : Call) (k : Stepped s o c) (p : ℕ) → (station_of c ≡ p) × (is_accepted (event_of s c) ≡ true)
      → (ordered.station_of k.call ≡ p) × ((t : seen.Token) × ((ordered.event (o.at (ordered.station_of k.call)) k.call).forwarded ≡ some t))
  accepted-here s o c k p h =
      let f = forwarded (event_of s c) h.1 in
      let e : event_seen ring (event_of s c) ≡ ordered.event (o.at (ordered.station_of k.call)) k.call = k.event ∙ ap (λ q. ordered.event (o.at q) k.call) (sym k.place) in
      (k.place ∙ h.0, (f.0, ap (λ (x : EventSeen). x.forwarded) (sym e) ∙ f.1))

  pub followed : (s : Ring Record) (o : ordered.Ring) (cs : List Call) → Matches s o → Possible size first s cs → Followed s o cs
  unfolding run ordered.run
  followed s o [] m h = record { calls = []; possible = tt; matches = m; accepts = λ p a. a }
  followed s o (c ∷ cs) m h =
      let k = step-law s o c m h.0 h.1 in
      let rest = followed (step structs s c) (ordered.step o k.call) cs k.matches h.2 in
      record {
        calls = k.call ∷ rest.calls;
        possible = (k.possible, rest.possible);
        matches = rest.matches;
        accepts = λ p a. ⊎_map (accepted-here s o c k p) (rest.accepts p) a;
      }
