-- The newest token: as ordering sees it, and that it passes 10 to 14.
use Prim.Native.Nat.{ℕ, ◌<◌}
use mathlib.Core.Path.{◌≡◌, refl, sym, ◌∙◌, ap, subst}
use mathlib.Core.Bool.{Bool, true, false, cond}
use mathlib.Core.List.{List, [], ◌∷◌, map}
use mathlib.Core.Option.{none, some}
use borrow.Author.Tests.{eq-eqb}
use native.Mathlib.Omega.{arith}
use lib.ListN.{length}
use lib.Dec.{eqb}
use Rattle.frames.specs.declared.header.Header.{Header}
use Rattle.std.specs.Prelude.{Result}
use Rattle.frames.specs.declared.refusal.Refusal.{Refusal}
use Rattle.frames.specs.declared.reader.Frame.{Frame}
use Rattle.record.specs.Ring.{current, ids, this_ring, token_members, token_passes}
use Rattle.record.specs.Members.{representative, members_counted, ids_follow, ring_in_range}
use Rattle.station.specs.Found.{first_token}
use Rattle.ordering.specs.inner.Frame as seen
use Rattle.ordering.specs.inner.Station as abstract
use Rattle.ordering.specs.inner.Station.{Station}
use Rattle.ordering.specs.inner.Visit as visit
use Rattle.ordering.specs.inner.History as cable
use Rattle.ordering.specs.inner.Run as ordered
use Rattle.record.specs.declared.Record.{Record}
use Rattle.ring.specs.Calls.{Call, station_of}
use Rattle.ring.specs.History.{Event, written_by, is_accepted}
use Rattle.ring.specs.Newest.{last_of, newest}
use Rattle.ring.specs.Run.{Ring, first_frame, ring_of, step, run, structs}
use Rattle.ring.proofs.runs.Going.{Possible}
use Rattle.ring.proofs.seen.View.{token_by, token_in, station_seen, event_seen}
use Rattle.ring.proofs.seen.Law.{Law}
use Rattle.ring.proofs.runs.Start.{own-among, some-member, first_reads, starts}
use Rattle.ring.proofs.runs.Matches.{event_of, Matches, step-law}
use Rattle.ring.proofs.runs.Accepting.{last-passes}

-- ---- as ordering sees it

pub newest-seen : (ring : Header) (first : List ℕ) (events : List Event) → cable.newest (token_in first) (map (event_seen ring) events) ≡ token_in (newest first events)
unfolding cable.newest newest event_seen
newest-seen ring first [] = refl
newest-seen ring first (e ∷ earlier) = by-accepted (is_accepted e) (last_of [] (written_by e)) (newest-seen ring first earlier)
  where
    by-accepted : (b : Bool) (last : List ℕ) → cable.newest (token_in first) (map (event_seen ring) earlier) ≡ token_in (newest first earlier)
        → ◌≡◌ {A = seen.Token} (elim (cond b (some (token_in last)) none) [ none ↦ cable.newest (token_in first) (map (event_seen ring) earlier) | some t ↦ t ]) (token_in (cond b last (newest first earlier)))
    by-accepted true last h = refl
    by-accepted false last h = h

module _ (members : List ℕ) (ring : ℕ) (counted : members_counted members ≡ true) (follow : ids_follow members ≡ true) (ranged : ring_in_range ring ≡ true) where
  -- founding's token
  pub first-seen : token_in (first_frame members ring) ≡ ordered.founding_token members (first_frame members ring)
  unfolding first_token
  first-seen = ap (λ (x : Result Frame Refusal). token_by (first_frame members ring) x) (first_reads members ring counted follow ranged)

  pub first_passes : token_passes ring members (first_frame members ring) ≡ true
  unfolding token_passes this_ring token_members first_token
  first_passes =
      rw (
        first_reads members ring counted follow ranged,
        eq-eqb ring ring refl,
        eq-eqb (representative members) (representative members) refl,
        own-among members 0 (omega (arith, some-member members ring counted follow ranged)),
      )

-- ---- members stay

members-stay : (s : Station) (d : ordered.Call) → (ordered.moved s d).members ≡ s.members
unfolding abstract.heard visit.visited
members-stay s (ordered.quiet p) = refl
members-stay s (ordered.hearing p x) = refl
members-stay s (ordered.visiting p t c) = refl
members-stay s (ordered.resending p) = refl

-- ---- it passes 10 to 14

module _ (law : Law) (members : List ℕ) (ring : ℕ) (counted : members_counted members ≡ true) (follow : ids_follow members ≡ true) (ranged : ring_in_range ring ≡ true) where
  abbrev first : List ℕ
  first = first_frame members ring

  abbrev Match : Ring Record → ordered.Ring → Type 0
  Match s o = Matches law (length members) (ring_of members ring) first (ordered.founding_token members first) (starts members ring counted follow ranged) s o

  abbrev MembersAre : ordered.Ring → Type 0
  MembersAre o = (p : ℕ) → p < length members → (o.at p).members ≡ members

  -- the ring of a record, and its members
  module _ (s : Ring Record) (o : ordered.Ring) (m : Match s o) (k : MembersAre o) (p : ℕ) (here : p < length members) where
    pub ring-there : (current (s.at p)).ring.0 ≡ ring
    ring-there = ap (λ (h : Header). h.ring.0) (m.rings p here)

    pub members-there : ids (current (s.at p)) ≡ members
    unfolding station_seen
    members-there = ap (λ (x : Station). x.members) (m.stations p here) ∙ k p here

  step-members : (o : ordered.Ring) (d : ordered.Call) → MembersAre o → ordered.station_of d < length members → MembersAre (ordered.step o d)
  unfolding ordered.step ordered.update
  step-members o d k here q h = by_place (eqb q (ordered.station_of d))
    where
      by_place : (b : Bool) → (cond b (ordered.moved (o.at (ordered.station_of d)) d) (o.at q)).members ≡ members
      by_place true = members-stay (o.at (ordered.station_of d)) d ∙ k (ordered.station_of d) here
      by_place false = k q h

  abbrev Passes : Ring Record → Type 0
  Passes s = token_passes ring members (newest first s.history) ≡ true

  step-passes : (s : Ring Record) (o : ordered.Ring) (c : Call) → Match s o → MembersAre o → station_of c < length members → Passes s → Passes (step structs s c)
  unfolding step newest
  step-passes s o c m k here before = by-accepted (is_accepted (event_of s c)) refl
    where
      by-accepted : (b : Bool) → is_accepted (event_of s c) ≡ b → token_passes ring members (cond b (last_of [] (written_by (event_of s c))) (newest first s.history)) ≡ true
      by-accepted true e =
          subst (λ n. token_passes n members (last_of [] (written_by (event_of s c))) ≡ true) (ring-there s o m k (station_of c) here)
          (subst (λ ms. token_passes (current (s.at (station_of c))).ring.0 ms (last_of [] (written_by (event_of s c))) ≡ true) (members-there s o m k (station_of c) here)
          (last-passes (s.at (station_of c)) c e))
      by-accepted false e = before

  pub newest-passes : (s : Ring Record) (o : ordered.Ring) (cs : List Call) → Match s o → MembersAre o → Possible (length members) first s cs → Passes s → Passes (run structs s cs)
  unfolding run
  newest-passes s o [] m k can before = before
  newest-passes s o (c ∷ cs) m k can before =
      let t = step-law law (length members) (ring_of members ring) first (ordered.founding_token members first) (starts members ring counted follow ranged) s o c m can.0 can.1 in
      newest-passes (step structs s c) (ordered.step o t.call) cs t.matches
      (step-members o t.call k (subst (λ p. p < length members) (sym t.place) can.0))
      can.2
      (step-passes s o c m k can.0 before)
