-- Demand 3, from ordering's theorem and the law of each call.
use Prim.Native.Nat.{ℕ, ◌<◌, ◌≤◌}
use mathlib.Core.Path.{◌≡◌, refl, sym, ◌∙◌, ap, subst}
use mathlib.Core.Bool.{true}
use mathlib.Core.List.{List, [], ◌∷◌, ◌++◌}
use mathlib.Core.Logic.{◌⊎◌, inl, inr}
use mathlib.Core.Option.{some}
use native.Mathlib.Omega.{arith}
use lib.ListN.{length}
use Rattle.frames.specs.declared.header.Header.{Header}
use Rattle.record.specs.Members.{members_counted, ids_follow, ring_in_range}
use Rattle.record.specs.Ring.{current}
use Rattle.visit.specs.Deliver.{ring_header, joined}
use Rattle.ordering.specs.inner.Frame as seen
use Rattle.ordering.specs.Lists.{Among, Begins, OneBegins}
use Rattle.ordering.specs.inner.History as cable
use Rattle.ordering.specs.inner.Run as ordered
use Rattle.ordering.specs.inner.Demand as demand
use Rattle.ring.specs.Calls.{Call, station_of, reply_to}
use Rattle.ring.specs.History.{Event, Written, written_in, is_numbered, reading, is_safe, Received, delivery_list, handed_by, deliveries, DeliveredAt}
use Rattle.record.specs.declared.Record.{Record}
use Rattle.ring.specs.Run.{Ring, records, start, first_frame, ring_of, run, Account, account_of, structs}
use Rattle.ring.specs.Demand.{CanAfter, OneOrder, SafeFirst, Delivered, WholeRun, Round}
use Rattle.ring.proofs.runs.Going.{Possible, AcceptedIn as Accepts}
use Rattle.ring.proofs.seen.Law.{Rewrites, Law}
use Rattle.ring.proofs.seen.View.{message_in, station_seen, event_seen}
use Rattle.ring.proofs.Lists.{texts, map-join, among-map, ⊎_map, some_inj, message-inj}
use Rattle.ring.proofs.seen.HistorySeen.{message-seen, reading-numbered, written_seen, first_seen, reading-seen, received-there, received-here, handed-seen, joined-join, delivery-list}
use Rattle.ring.proofs.runs.Matches.{Matches, Stepped, step-law, Followed, followed}
use Rattle.ring.proofs.runs.Start.{starts, first-rewrites, station-starts, ring-starts}
use Rattle.ring.proofs.runs.Split.{run_join, possible-after, accepts-after, possible-first, possible-rest, run-join-seen, possible-join, reading-stays}

-- a beginning of messages is a beginning of bytes
begins-joined : (xs ys : List seen.Message) → Begins xs ys → Begins (joined (texts xs)) (joined (texts ys))
begins-joined xs ys b = (
  joined (texts b.0),
  sym (joined-join (texts xs) (texts b.0)) ∙ ap joined (sym (map-join (λ (x : seen.Message). x.text) xs b.0)) ∙ ap (λ zs. joined (texts zs)) b.1,
)

pub text_in : (f : List ℕ) → (message_in f).text ≡ f
unfolding message_in
text_in f = refl

module _ (law : Law) (members : List ℕ) (ring : ℕ)
    (counted : members_counted members ≡ true) (follow : ids_follow members ≡ true) (ranged : ring_in_range ring ≡ true)
    (ordering : demand.Demand₃ members (first_frame members ring))
    -- records by place, founding's at the members' places
    (founded : ℕ → Record) (are : (p : ℕ) → p < length members → founded p ≡ records members ring p) where
  abbrev size : ℕ
  size = length members

  abbrev first : List ℕ
  first = first_frame members ring

  abbrev this : Header
  this = ring_of members ring

  abbrev first_seen_token : seen.Token
  first_seen_token = ordered.founding_token members first

  abbrev Match : Ring Record → ordered.Ring → Type 0
  Match s o = Matches law size this first first_seen_token (starts members ring counted follow ranged) s o

  abbrev Follow : Ring Record → ordered.Ring → List Call → Type 0
  Follow s o cs = Followed law size this first first_seen_token (starts members ring counted follow ranged) s o cs

  abbrev account : Account
  account = account_of structs founded

  abbrev after : List Call → Ring Record
  after calls = run structs (start founded) calls

  abbrev Can : List Call → Type 0
  Can calls = Possible size first (start founded) calls

  -- ---- the start is seen

  pub match-start : Match (start founded) (ordered.start members)
  unfolding written_in
  match-start =
      record {
        stations = λ p h. ap station_seen (are p h) ∙ station-starts members ring counted follow ranged p h;
        history = refl;
        rings = λ p h. ap (λ (r : Record). ring_header (current r)) (are p h) ∙ ring-starts members ring counted follow ranged p h;
        cable = λ f h. on-start f h;
      }
    where
      on-start : (f : List ℕ) → Among f (first ∷ []) ⊎ ((place : ℕ) × Among (record { frame = f; place = place }) (written_in [])) → Rewrites f
      on-start f (inl (inl e)) = subst Rewrites (sym e) (first-rewrites members ring counted follow ranged)
      on-start f (inl (inr none)) = absurd none
      on-start f (inr h) = absurd h.1

  pub follow-on : (s : Ring Record) (o : ordered.Ring) (cs : List Call) → Match s o → Possible size first s cs → Follow s o cs
  follow-on s o cs m h = followed law size this first first_seen_token (starts members ring counted follow ranged) s o cs m h

  -- the delivery list of a ring that is seen
  list-seen : (s : Ring Record) (o : ordered.Ring) (p : ℕ) → Match s o → joined (texts (cable.handed_at p o.history)) ≡ delivery_list p s.history
  list-seen s o p m =
      ap (λ l. joined (texts (cable.handed_at p l))) (sym m.history)
      ∙ ap joined (handed-seen this p s.history)
      ∙ delivery-list p s.history

  one_order : (calls : List Call) → Can calls → OneOrder members ring account calls
  one_order calls can p q p< q< =
      let f = follow-on (start founded) (ordered.start members) calls match-start can in
      let end = ordered.run (ordered.start members) f.calls in
      let lists = ⊎_map (begins-joined (cable.handed_at p end.history) (cable.handed_at q end.history)) (begins-joined (cable.handed_at q end.history) (cable.handed_at p end.history))
      (ordering.one_order f.calls f.possible p q p< q<) in
      subst (λ l. OneBegins l (delivery_list q (after calls).history)) (list-seen (after calls) end p f.matches)
      (subst (λ l. OneBegins (joined (texts (cable.handed_at p end.history))) l) (list-seen (after calls) end q f.matches) lists)

  -- ---- a safe reading had been received everywhere before

  module _ (before later : List Call) (c : Call) (can : Can (before ++ (c ∷ later))) where
    ahead : Follow (start founded) (ordered.start members) before
    ahead = follow-on (start founded) (ordered.start members) before match-start (possible-first size first (start founded) before (c ∷ later) can)

    abbrev now : Ring Record
    now = after before

    abbrev now_seen : ordered.Ring
    now_seen = ordered.run (ordered.start members) ahead.calls

    here : Possible size first now (c ∷ later)
    here = possible-rest size first (start founded) before (c ∷ later) can

    call-seen : Stepped law size this first first_seen_token (starts members ring counted follow ranged) now now_seen c
    call-seen = step-law law size this first first_seen_token (starts members ring counted follow ranged) now now_seen c ahead.matches here.0 here.1

    possible-seen : demand.Allows members first (ahead.calls ++ (call-seen.call ∷ []))
    possible-seen = possible-join size first_seen_token (ordered.start members) ahead.calls (call-seen.call ∷ []) ahead.possible (call-seen.possible, tt)

    abbrev event_now : Event
    event_now = record { call = c; reply = reply_to (now.at (station_of c)) c }

    -- a frame that the call hands out is handed out as ordering sees it
    handed-there : (f : List ℕ) → Among f (handed_by event_now) → Among (message_in f) (ordered.event (now_seen.at (ordered.station_of call-seen.call)) call-seen.call).handed
    unfolding event_seen
    handed-there f a =
        let e : event_seen this event_now ≡ ordered.event (now_seen.at (ordered.station_of call-seen.call)) call-seen.call =
        call-seen.event ∙ ap (λ q. ordered.event (now_seen.at q) call-seen.call) (sym call-seen.place) in
        subst (λ (x : cable.Event). Among (message_in f) x.handed) e (among-map message_in f (handed_by event_now) a)

    safe-before : (n : ℕ) (w : Written)
        → is_numbered this n w.frame ≡ true
        → is_safe w.frame ≡ true
        → Among w.frame (handed_by event_now)
        → (p : ℕ) → p < size → Received this now.history p n
    unfolding is_safe message_in
    safe-before n w numbered safe a p p< =
        let got = ordering.safe_first ahead.calls call-seen.call possible-seen (message_in w.frame) (handed-there w.frame a) safe p p< in
        let number : (message_in w.frame).number ≡ n = (message-seen this n w.frame numbered).1 in
        received-here this now.history p n
        (subst (cable.Received p n) (sym ahead.matches.history) (subst (λ k. cable.Received p k now_seen.history) number got))

  safe_first : (calls : List Call) → Can calls → SafeFirst members ring account calls
  safe_first calls can before later c e n w is safe a p p< =
      safe-before before later c (subst Can e can) n w (reading-numbered this (after calls).history n w is) safe a p p<

  -- ---- three rounds later

  module _ (before one two three : List Call) (can : Can (before ++ (one ++ (two ++ three)))) where
    abbrev s₀ : Ring Record
    s₀ = after before

    abbrev s₁ : Ring Record
    s₁ = run structs s₀ one

    abbrev s₂ : Ring Record
    s₂ = run structs s₁ two

    can₁ : Possible size first s₀ (one ++ (two ++ three))
    can₁ = possible-rest size first (start founded) before (one ++ (two ++ three)) can

    can₂ : Possible size first s₁ (two ++ three)
    can₂ = possible-rest size first s₀ one (two ++ three) can₁

    f₀ : Follow (start founded) (ordered.start members) before
    f₀ = follow-on (start founded) (ordered.start members) before match-start (possible-first size first (start founded) before (one ++ (two ++ three)) can)

    abbrev o₀ : ordered.Ring
    o₀ = ordered.run (ordered.start members) f₀.calls

    f₁ : Follow s₀ o₀ one
    f₁ = follow-on s₀ o₀ one f₀.matches (possible-first size first s₀ one (two ++ three) can₁)

    abbrev o₁ : ordered.Ring
    o₁ = ordered.run o₀ f₁.calls

    f₂ : Follow s₁ o₁ two
    f₂ = follow-on s₁ o₁ two f₁.matches (possible-first size first s₁ two three can₂)

    abbrev o₂ : ordered.Ring
    o₂ = ordered.run o₁ f₂.calls

    f₃ : Follow s₂ o₂ three
    f₃ = follow-on s₂ o₂ three f₂.matches (possible-rest size first s₁ two three can₂)

    abbrev all_calls : List ordered.Call
    all_calls = f₀.calls ++ (f₁.calls ++ (f₂.calls ++ f₃.calls))

    all-possible : demand.Allows members first all_calls
    all-possible =
        possible-join size first_seen_token (ordered.start members) f₀.calls (f₁.calls ++ (f₂.calls ++ f₃.calls)) f₀.possible
        (possible-join size first_seen_token o₀ f₁.calls (f₂.calls ++ f₃.calls) f₁.possible
        (possible-join size first_seen_token o₁ f₂.calls f₃.calls f₂.possible f₃.possible))

    -- the ring at the end, in parts
    end : after (before ++ (one ++ (two ++ three))) ≡ run structs s₂ three
    end = run_join (start founded) before (one ++ (two ++ three)) ∙ run_join s₀ one (two ++ three) ∙ run_join s₁ two three

    end_seen : demand.after members first all_calls ≡ ordered.run o₂ f₃.calls
    end_seen =
        run-join-seen (ordered.start members) f₀.calls (f₁.calls ++ (f₂.calls ++ f₃.calls))
        ∙ run-join-seen o₀ f₁.calls (f₂.calls ++ f₃.calls)
        ∙ run-join-seen o₁ f₂.calls f₃.calls

    module _ (m : ℕ) (got : (p n : ℕ) → p < size → 1 ≤ n → n ≤ m → Received this s₀.history p n)
        (r₁ : Round members ring account before one) (r₂ : Round members ring account (before ++ one) two) (r₃ : Round members ring account (before ++ (one ++ two)) three) where
      got-seen : (p n : ℕ) → p < size → 1 ≤ n → n ≤ m → cable.Received p n o₀.history
      got-seen p n p< low high = subst (cable.Received p n) f₀.matches.history (received-there this s₀.history p n (got p n p< low high))

      round₂ : demand.Round members first (demand.after members first (f₀.calls ++ f₁.calls)) f₂.calls
      round₂ p p< =
          subst (λ o. ordered.AcceptedIn p o f₂.calls) (sym (run-join-seen (ordered.start members) f₀.calls f₁.calls))
          (f₂.accepts p (subst (λ s. Accepts p s two) (run_join (start founded) before one) (accepts-after members ring founded p (before ++ one) two (r₂ p p<))))

      round₃ : demand.Round members first (demand.after members first (f₀.calls ++ (f₁.calls ++ f₂.calls))) f₃.calls
      round₃ p p< =
          subst (λ o. ordered.AcceptedIn p o f₃.calls)
          (sym (run-join-seen (ordered.start members) f₀.calls (f₁.calls ++ f₂.calls) ∙ run-join-seen o₀ f₁.calls f₂.calls))
          (f₃.accepts p (subst (λ s. Accepts p s three) (run_join (start founded) before (one ++ two) ∙ run_join s₀ one two) (accepts-after members ring founded p (before ++ (one ++ two)) three (r₃ p p<))))

      delivered-later : (p n : ℕ) (w : Written) → p < size → 1 ≤ n → n ≤ m
          → reading this (after (before ++ (one ++ (two ++ three)))).history n ≡ some w
          → DeliveredAt p (after (before ++ (one ++ (two ++ three)))).history w.frame
      delivered-later p n w p< low high is =
          let d = ordering.delivered f₀.calls f₁.calls f₂.calls f₃.calls all-possible m got-seen (λ q q<. f₁.accepts q (accepts-after members ring founded q before one (r₁ q q<))) round₂ round₃ p n p< low high in
          let g = got p n p< low high in
          -- the reading is the one that was received
          let same : g.first ≡ w =
          some_inj (sym (reading-stays this s₀ (one ++ (two ++ three)) n g.first g.is) ∙ ap (λ (s : Ring Record). reading this s.history n) (sym (run_join (start founded) before (one ++ (two ++ three)))) ∙ is) in
          let first-is : written_seen this g.first ≡ d.1 =
          some_inj (sym (ap (first_seen this) g.is) ∙ sym (reading-seen this s₀.history n) ∙ ap (λ l. cable.reading l n) f₀.matches.history ∙ d.2) in
          let m-is = (message-seen this n g.first.frame (reading-numbered this s₀.history n g.first g.is)).0 in
          let x-is : message_in g.first.frame ≡ d.0 = message-inj (sym m-is ∙ ap (λ (v : cable.Written). v.frame) first-is ∙ d.3) in
          let there : Among d.0 (cable.handed_at p (ordered.run o₂ f₃.calls).history) = subst (λ (o : ordered.Ring). Among d.0 (cable.handed_at p o.history)) end_seen d.4 in
          let texts-there : Among d.0.text (deliveries p (run structs s₂ three).history) =
          subst (Among d.0.text) (ap (λ l. texts (cable.handed_at p l)) (sym f₃.matches.history) ∙ handed-seen this p (run structs s₂ three).history)
          (among-map (λ (x : seen.Message). x.text) d.0 (cable.handed_at p (ordered.run o₂ f₃.calls).history) there) in
          subst (λ (s : Ring Record). DeliveredAt p s.history w.frame) (sym end)
          (subst (λ f. Among f (deliveries p (run structs s₂ three).history)) (sym (ap (λ (x : seen.Message). x.text) x-is) ∙ text_in g.first.frame ∙ ap (λ (v : Written). v.frame) same) texts-there)

  delivered : (calls : List Call) → Can calls → Delivered members ring account calls
  delivered calls can before one two three e n low got r₁ r₂ r₃ p w p< is =
      subst (λ cs. DeliveredAt p (after cs).history w.frame) (sym e)
      (delivered-later before one two three (subst Can e can) n got r₁ r₂ r₃ p n w p< low (omega arith) (subst (λ cs. reading this (after cs).history n ≡ some w) e is))

  pub whole-run-from : (calls : List Call) → CanAfter members ring account [] calls → WholeRun members ring account calls
  unfolding run
  whole-run-from calls h =
      let can = possible-after members ring founded [] calls h in
      record { one_order = one_order calls can; safe_first = safe_first calls can; delivered = delivered calls can }
