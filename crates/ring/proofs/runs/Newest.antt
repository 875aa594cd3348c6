-- The newest token is never refused by its addressee.
use Prim.Native.Nat.{ℕ, ◌<◌, ◌≤◌}
use mathlib.Core.Path.{◌≡◌, refl, sym, ◌∙◌, ap}
use mathlib.Core.Bool.{true}
use mathlib.Core.List.{List, [], map}
use mathlib.Core.Option.{some}
use native.Mathlib.Omega.{arith}
use lib.ListN.{length}
use Rattle.frames.specs.Number.{most_number}
use Rattle.std.specs.Prelude.{Result}
use Rattle.frames.specs.declared.refusal.Refusal.{Refusal}
use Rattle.frames.specs.declared.reader.Frame.{Frame}
use Rattle.frames.specs.declared.token.Token.{Token}
use Rattle.record.specs.Members.{members_counted, ids_follow, ring_in_range}
use Rattle.record.specs.Ring.{current, ids}
use Rattle.record.specs.Whole.{whole}
use Rattle.record.specs.declared.Record.{Record}
use Rattle.visit.specs.Acceptable.{Acceptable, visit}
use Rattle.ordering.specs.inner.Frame as seen
use Rattle.ordering.specs.inner.Station.{Station}
use Rattle.ordering.specs.inner.History as cable
use Rattle.ordering.specs.inner.Run as ordered
use Rattle.ordering.proofs.Newest.{Newest, newest-is}
use Rattle.ring.specs.Calls.{Call}
use Rattle.ring.specs.Run.{Ring, records, first_frame, ring_of, start, run, account_of, structs}
use Rattle.ring.specs.Demand.{CanAfter}
use Rattle.ring.specs.Newest.{newest, newest_after, NewestAccepted, NeverRefused}
use Rattle.ring.proofs.runs.Going.{Possible}
use Rattle.ring.proofs.seen.View.{seen_token, token_by, token_in, store_of, station_seen, event_seen}
use Rattle.ring.proofs.seen.CallLaw.{sight}
use Rattle.ring.proofs.runs.Start.{ring-facts, ids-distinct, some-member, starts}
use Rattle.ring.proofs.runs.Matches.{Matches, Followed}
use Rattle.ring.proofs.runs.Split.{possible-after}
use Rattle.ring.proofs.runs.Theorem.{match-start, follow-on}
use Rattle.ring.proofs.runs.Demand.{in_order}
use Rattle.ring.proofs.runs.Wholes.{founded-whole, run-whole}
use Rattle.ring.proofs.runs.Accepting.{Passed, passed, covers, event-accepted}
use Rattle.ring.proofs.runs.NewestSeen.{newest-seen, first-seen, first_passes, ring-there, members-there, newest-passes}

module _ (members : List ℕ) (ring : ℕ)
    (counted : members_counted members ≡ true) (follow : ids_follow members ≡ true) (ranged : ring_in_range ring ≡ true)
    -- records by place, founding's at the members' places
    (founded : ℕ → Record) (are : (p : ℕ) → p < length members → founded p ≡ records members ring p) where
  abbrev first : List ℕ
  first = first_frame members ring

  abbrev first_seen : seen.Token
  first_seen = ordered.founding_token members first

  abbrev Match : Ring Record → ordered.Ring → Type 0
  Match s o = Matches sight (length members) (ring_of members ring) first first_seen (starts members ring counted follow ranged) s o

  matched : Match (start founded) (ordered.start members)
  matched = match-start sight members ring counted follow ranged (in_order members ring counted follow ranged) founded are

  module _ (calls : List Call) (can : Possible (length members) first (start founded) calls) where
    abbrev now : Ring Record
    now = run structs (start founded) calls

    -- the newest token's frame
    abbrev frame : List ℕ
    frame = newest_after members ring (account_of structs founded) calls

    -- ---- as ordering sees it

    seen-run : Followed sight (length members) (ring_of members ring) first first_seen (starts members ring counted follow ranged) (start founded) (ordered.start members) calls
    seen-run = follow-on sight members ring counted follow ranged (in_order members ring counted follow ranged) founded are (start founded) (ordered.start members) calls matched can

    abbrev now_seen : ordered.Ring
    now_seen = ordered.run (ordered.start members) seen-run.calls

    due : Newest members first_seen now_seen
    due = newest-is members first (ids-distinct members follow) (omega (arith, some-member members ring counted follow ranged)) seen-run.calls seen-run.possible

    frame-is : cable.newest first_seen now_seen.history ≡ token_in frame
    frame-is =
        ap (cable.newest first_seen) (sym seen-run.matches.history)
        ∙ ap (λ (t : seen.Token). cable.newest t (map (event_seen (ring_of members ring)) now.history)) (sym (first-seen members ring counted follow ranged))
        ∙ newest-seen (ring_of members ring) first now.history

    -- it passes 10 to 14
    token-passed : Passed ring members frame
    unfolding newest
    token-passed =
        passed ring members frame
        (newest-passes sight members ring counted follow ranged (start founded) (ordered.start members) calls matched (λ p h. refl) can
        (first_passes members ring counted follow ranged))

    abbrev token : Token
    token = token-passed.token

    token-is : cable.newest first_seen now_seen.history ≡ seen_token token frame
    token-is = frame-is ∙ ap (λ (x : Result Frame Refusal). token_by frame x) token-passed.read

    -- ---- its addressee

    abbrev there : Record
    there = now.at due.place

    station-is : station_seen there ≡ now_seen.at due.place
    station-is = seen-run.matches.stations due.place due.place_in

    whole-there : whole there ≡ true
    whole-there = run-whole (length members) first (start founded) calls can (λ p h. ap whole (are p h) ∙ founded-whole members ring counted follow ranged p h) due.place due.place_in

    ring-is : (current there).ring.0 ≡ ring
    ring-is = ring-there sight members ring counted follow ranged now now_seen seen-run.matches due.members-are due.place due.place_in

    ids-are : ids (current there) ≡ members
    ids-are = members-there sight members ring counted follow ranged now now_seen seen-run.matches due.members-are due.place due.place_in

    -- 15
    addressed-here : token.addressee ≡ there.own
    unfolding station_seen
    addressed-here = ap (λ (t : seen.Token). t.addressee) (sym token-is) ∙ sym due.addressee-own ∙ ap (λ (s : Station). s.own) (sym station-is)

    -- 16
    newer : there.turn.number.0 < token.number.0
    unfolding station_seen
    newer =
        omega (
          arith,
          due.waiting (some-member members ring counted follow ranged),
          ap (λ (s : Station). s.last) station-is,
          ap (λ (t : seen.Token). t.number) token-is,
        )

    -- 18
    highest-is : (cable.newest first_seen now_seen.history).highest ≡ token.highest.0
    highest-is = ap (λ (t : seen.Token). t.highest) token-is

    level-low : (current there).level.0 ≤ token.highest.0
    unfolding station_seen
    level-low = omega (arith, due.level-most due.place due.place_in, ap (λ (s : Station). s.level) station-is, highest-is)

    held_low : (n : ℕ) (x : seen.Message) → store_of (current there) n ≡ some x → n ≤ token.highest.0
    unfolding station_seen
    held_low n x e =
        let held = ap (λ (s : Station). s.held n) (sym station-is) ∙ e in
        omega (arith, due.held-most due.place due.place_in n x held, highest-is)

    acceptable : token.number.0 < most_number → Acceptable (visit there token)
    acceptable low =
        record {
          whole_record = whole-there;
          follows = token-passed.follows;
          of_this_ring = rw (ring-is, ids-are) token-passed.of_this_ring;
          members = rw ids-are token-passed.members-are;
          here = addressed-here;
          newer = newer;
          not_last = low;
          covers = covers (current there) token.highest.0 level-low held_low;
        }

    newest_accepted : NewestAccepted members ring (account_of structs founded) calls
    newest_accepted =
        record {
          place = due.place;
          here = due.place_in;
          token = token;
          reads = token-passed.read;
          addressed = ap (λ (t : seen.Token). t.addressee) (sym token-is) ∙ due.addressee-is;
          accepts = λ frames deliveries enough room low. event-accepted there frame token token-passed.read (acceptable low) due.place frames deliveries enough room;
        }

  pub never-refused-from : (calls : List Call) → CanAfter members ring (account_of structs founded) [] calls → NewestAccepted members ring (account_of structs founded) calls
  unfolding run
  never-refused-from calls h =
      newest_accepted calls (possible-after members ring founded [] calls h)

pub never-refused : NeverRefused
never-refused members ring foundable =
    let f = ring-facts members ring foundable in
    never-refused-from members ring f.counted f.follow f.ranged (records members ring) (λ p h. refl)
