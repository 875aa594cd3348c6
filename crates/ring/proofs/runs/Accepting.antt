-- A token that passes every question is accepted, and what an accepting call writes last passes 10 to 14.
use Prim.Native.Nat.{ℕ, ◌≤◌}
use mathlib.Core.Path.{◌≡◌, sym, ◌∙◌, ap, subst}
use mathlib.Core.Bool.{true, false, and-false, false≢true}
use mathlib.Core.List.{List, []}
use mathlib.Core.Option.{Option, some}
use borrow.Author.Tests.{le-leb, eq-eqb, lt-ltb}
use lib.ListN.{length}
use Rattle.frames.specs.Message.{content_of}
use Rattle.frames.specs.Number.{most_number}
use Rattle.frames.specs.Token.{token_follows}
use Rattle.frames.specs.Read.{read_of, a_token}
use Rattle.frames.specs.declared.token.Token.{Token}
use Rattle.std.specs.Prelude.{Result}
use Rattle.frames.specs.declared.refusal.Refusal.{Refusal}
use Rattle.frames.specs.declared.reader.Frame.{Frame}
use Rattle.frames.proofs.Facts.{part}
use Rattle.record.specs.Ring.{current, ids, this_ring, token_members, reading_passes, token_passes}
use Rattle.record.specs.declared.log.Log.{Log}
use Rattle.record.specs.declared.Record.{Record}
use Rattle.record.proofs.HeldFacts.{held-within-most}
use Rattle.station.specs.Reply.{Reply}
use Rattle.visit.specs.Output.{most_frames, most_deliveries}
use Rattle.station.specs.Arrive.{accepted}
use Rattle.visit.specs.Acceptable.{covers_held}
use Rattle.station.specs.Arrive.{token_arrived, arrived}
use Rattle.visit.specs.Within.{frames_in}
use Rattle.visit.specs.Acceptable.{Acceptable, visit}
use Rattle.station.specs.EveryArrival.{ArrivedCase, refuses, hears, accepts}
use Rattle.station.proofs.ArrivedCases.{ReadCase, unread, message, token, read-case, arrived-case}
use Rattle.visit.proofs.TokenLaws.{token-passes}
use Rattle.visit.proofs.VisitReads.{visit-reads}
use Rattle.ordering.specs.inner.Frame as seen
use Rattle.ring.specs.Calls.{Call, post, arrival, resending, reply_to}
use Rattle.ring.specs.History as called
use Rattle.ring.specs.History.{written_by, accepts_token}
use Rattle.ring.specs.Newest.{last_of}
use Rattle.ring.proofs.seen.View.{store_of}
use Rattle.ring.proofs.seen.SeenLaws.{no_frames, none-accepted}
use Rattle.ring.proofs.seen.StoreLaws.{message_held, store-held}
use Rattle.ring.proofs.seen.HearLaw.{heard-unwritten}
use Rattle.ring.proofs.seen.VisitWritten.{last_written}
use Rattle.ring.proofs.seen.VisitLaw.{accepts as accepts-visit}

-- ---- a frame that passes 10 to 14 reads as a token, whose values follow the layout

pub record Passed (ring : ℕ) (members frame : List ℕ) : Type 0 where
  pub token : Token
  pub read : read_of frame ≡ a_token token
  pub follows : token_follows token ≡ true
  pub of_this_ring : this_ring ring members token.header ≡ true
  pub members-are : token_members members token ≡ true

pub passed : (ring : ℕ) (members frame : List ℕ) → token_passes ring members frame ≡ true → Passed ring members frame
unfolding token_passes
passed ring members frame e = go (read-case frame)
  where
    as-read : (x : Result Frame Refusal) → read_of frame ≡ x → reading_passes ring members x ≡ true
    as-read x f = rw f at e

    go : ReadCase frame (read_of frame) → Passed ring members frame
    go (unread why f) = absurd (false≢true (as-read _ f))
    go (message m f follows) = absurd (false≢true (as-read _ f))
    go (token t f follows) =
        record {
          token = t;
          read = f;
          follows = follows;
          of_this_ring = part (as-read _ f) (λ (g : this_ring ring members t.header ≡ false). rw g);
          members-are = part (as-read _ f) (λ (g : token_members members t ≡ false). simp (g, and-false));
        }

-- ---- 18: its highest is at least the level and every number held

pub covers : (l : Log) (highest : ℕ) → l.level.0 ≤ highest → ((n : ℕ) (x : seen.Message) → store_of l n ≡ some x → n ≤ highest) → covers_held l highest ≡ true
unfolding covers_held
covers l highest level held = rw (le-leb l.level.0 highest level) (held-within-most l highest (λ n e. held n (message_held l n) (store-held l n e)))

-- ---- it is accepted

module _ (r : Record) (frame : List ℕ) (t : Token) (read : read_of frame ≡ a_token t) (ok : Acceptable (visit r t)) where
  arrived-accepts : (frames deliveries : ℕ) → most_frames ≤ frames → most_deliveries ≤ deliveries → arrived r frame frames deliveries ≡ accepted (visit r t)
  unfolding arrived token_arrived
  arrived-accepts frames deliveries enough room =
      rw (
        le-leb most_frames frames enough,
        le-leb most_deliveries deliveries room,
        ok.whole_record,
        read,
        ok.of_this_ring,
        ok.members,
        eq-eqb t.addressee r.own ok.here,
        lt-ltb r.turn.number.0 t.number.0 ok.newer,
        lt-ltb t.number.0 most_number ok.not_last,
        ok.covers,
      )

  pub event-accepted : (place : ℕ) (frames deliveries : List ℕ) → most_frames ≤ length frames → most_deliveries ≤ length deliveries
      → called.is_accepted (record { call = arrival place frame frames deliveries; reply = reply_to r (arrival place frame frames deliveries) }) ≡ true
  unfolding called.is_accepted accepted
  event-accepted place frames deliveries enough room =
      ap (λ (x : Reply). accepts_token (some frame) (frames_in x.frames)) (arrived-accepts (length frames) (length deliveries) enough room)
      ∙ ap (accepts_token (some frame)) (visit-reads (visit r t) ok).within
      ∙ accepts-visit (visit r t) ok frame read

-- ---- a call that accepts one writes last a token that passes 10 to 14

abbrev LastPasses : Record → List (List ℕ) → Type 0
LastPasses r frames = token_passes (current r).ring.0 (ids (current r)) (last_of [] frames) ≡ true

-- nothing written, nothing accepted
unwritten-accepts : (handed : Option (List ℕ)) (reply : Reply) → reply.frames ≡ [] → accepts_token handed (frames_in reply.frames) ≡ false
unwritten-accepts handed reply e = rw (e, no_frames) (none-accepted handed)

arrival-passes : (r : Record) (frame : List ℕ) (reply : Reply) → ArrivedCase r frame reply → accepts_token (some frame) (frames_in reply.frames) ≡ true → LastPasses r (frames_in reply.frames)
unfolding accepted
arrival-passes r frame reply (refuses why e) h = absurd (false≢true (sym (unwritten-accepts (some frame) reply (ap (λ (x : Reply). x.frames) e)) ∙ h))
arrival-passes r frame reply (hears m read ok e) h =
    absurd (false≢true (sym (unwritten-accepts (some frame) reply (ap (λ (x : Reply). x.frames) e ∙ heard-unwritten r m (content_of frame))) ∙ h))
arrival-passes r frame reply (accepts t read ok e) h =
    subst (LastPasses r) (sym (ap (λ (x : Reply). frames_in x.frames) e ∙ (visit-reads (visit r t) ok).within))
    (rw (last_written (visit r t) ok) (token-passes (visit r t) ok))

pub last-passes : (r : Record) (c : Call) → called.is_accepted (record { call = c; reply = reply_to r c }) ≡ true → LastPasses r (written_by (record { call = c; reply = reply_to r c }))
unfolding called.is_accepted
last-passes r (post place service content) h = absurd (false≢true h)
last-passes r (arrival place frame frames deliveries) h = arrival-passes r frame (reply_to r (arrival place frame frames deliveries)) (arrived-case r frame (length frames) (length deliveries)) h
last-passes r (resending place frames) h = absurd (false≢true h)
