-- What a station delivers is readings 1, 2, 3 and so on.
use Prim.Native.Nat.{ℕ, suc}
use mathlib.Core.Path.{◌≡◌, refl, sym, ◌∙◌, ap, subst}
use mathlib.Core.List.{List, [], ◌∷◌, map}
use mathlib.Core.Option.{Option, none, some}
use native.Mathlib.Omega.{arith}
use Rattle.frames.specs.declared.header.Header.{Header}
use Rattle.ordering.specs.inner.Frame as seen
use Rattle.ordering.specs.inner.History as cable
use Rattle.ordering.specs.inner.Run as ordered
use Rattle.ordering.proofs.Listed.{ListedFrom, listed as listed-seen}
use Rattle.ring.specs.Calls.{Call}
use Rattle.ring.specs.History.{Event, Written, reading}
use Rattle.ring.specs.Run.{records, first_frame, ring_of, start, run, Account, account_of, structs}
use Rattle.ring.specs.Listed.{ReadingsFrom, ListedInOrder, Listed}
use Rattle.ring.proofs.seen.View.{message_in, event_seen}
use Rattle.ring.proofs.seen.CallLaw.{sight}
use Rattle.ring.proofs.Lists.{texts, none≢some, some_inj, message-inj}
use Rattle.ring.proofs.seen.HistorySeen.{message-seen, reading-numbered, written_seen, first_seen, reading-seen, handed-seen}
use Rattle.ring.proofs.runs.Start.{RingFacts, ring-facts, ids-distinct, some-member}
use Rattle.ring.proofs.runs.Split.{possible-after}
use Rattle.ring.proofs.runs.Theorem.{text_in, match-start, follow-on}
use Rattle.ring.proofs.runs.Demand.{FromFounded, in_order}

-- a reading as ordering sees it is the reading
reading-here : (ring : Header) (events : List Event) (n : ℕ) (x : seen.Message) (v : cable.Written)
    → cable.reading (map (event_seen ring) events) n ≡ some v
    → v.frame ≡ seen.message x
    → (w : Written) × (reading ring events n ≡ some w) × (w.frame ≡ x.text)
reading-here ring events n x v is f = by-reading (reading ring events n) refl (sym (reading-seen ring events n) ∙ is)
  where
    by-reading : (o : Option Written) → reading ring events n ≡ o → first_seen ring o ≡ some v → (w : Written) × (reading ring events n ≡ some w) × (w.frame ≡ x.text)
    by-reading none e g = absurd (none≢some g)
    by-reading (some w) e g =
        let same : written_seen ring w ≡ v = some_inj g in
        let m = (message-seen ring n w.frame (reading-numbered ring events n w e)).0 in
        let x-is : message_in w.frame ≡ x = message-inj (sym m ∙ ap (λ (u : cable.Written). u.frame) same ∙ f) in
        (w, e, sym (text_in w.frame) ∙ ap (λ (y : seen.Message). y.text) x-is)

module _ (members : List ℕ) (ring : ℕ) (a : Account) (calls : List Call) where
  readings-here : (n : ℕ) (xs : List seen.Message) → ListedFrom (map (event_seen (ring_of members ring)) (a.history calls)) n xs → ReadingsFrom members ring a calls n (texts xs)
  readings-here n [] h = tt
  readings-here n (x ∷ xs) h =
      (reading-here (ring_of members ring) (a.history calls) n x h.0.0 h.0.1 h.0.2, readings-here (suc n) xs h.1)

pub listed-from : (members : List ℕ) (ring : ℕ) → RingFacts members ring → FromFounded members ring (ListedInOrder members ring)
unfolding run
listed-from members ring facts founded are calls can p p< =
    let order = in_order members ring facts.counted facts.follow facts.ranged in
    let begun = match-start sight members ring facts.counted facts.follow facts.ranged order founded are in
    let f = follow-on sight members ring facts.counted facts.follow facts.ranged order founded are
    (start founded) (ordered.start members) calls begun (possible-after members ring founded [] calls can) in
    let this = ring_of members ring in
    let events = (run structs (start founded) calls).history in
    let there = listed-seen members (first_frame members ring) (ids-distinct members facts.follow)
    (omega (arith, some-member members ring facts.counted facts.follow facts.ranged)) f.calls f.possible p p< in
    subst (ReadingsFrom members ring (account_of structs founded) calls 1) (handed-seen this p events)
    (readings-here members ring (account_of structs founded) calls 1 (cable.handed_at p (map (event_seen this) events))
    (subst (λ l. ListedFrom l 1 (cable.handed_at p l)) (sym f.matches.history) there))

pub listed : Listed
listed members ring foundable = listed-from members ring (ring-facts members ring foundable) (records members ring) (λ p h. refl)
