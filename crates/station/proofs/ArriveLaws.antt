-- Arrival: what a heard message and an accepted token leave, and what the reader says.
use Prim.Native.Nat.{ℕ}
use mathlib.Core.Path.{◌≡◌, refl, sym, ap, ◌∙◌}
use mathlib.Core.Bool.{Bool, true, false, ◌&&◌, cond}
use mathlib.Core.List.{List, []}
use borrow.Author.Tests.{eq-eqb, lt-ltb}
use lib.ListN.{length}
use lib.Dec.{leb, ltb, eqb}
use Rattle.std.specs.Prelude.{Result, Ok}
use Rattle.frames.specs.Number.{most_number}
use Rattle.frames.specs.Message.{content_of, message_follows}
use Rattle.frames.specs.Token.{token_follows}
use Rattle.frames.specs.Read.{read_of, a_message, a_token}
use Rattle.frames.specs.declared.refusal.Refusal.{Refusal as Unread}
use Rattle.frames.specs.declared.message.Message.{Message}
use Rattle.frames.specs.declared.token.Token.{Token}
use Rattle.frames.specs.declared.reader.Frame.{Frame}
use Rattle.frames.proofs.Rewritten.{message-not-token, unread-not-message, unread-not-token}
use Rattle.record.specs.Layout.{record_size}
use Rattle.record.specs.Bytes.{record_bytes}
use Rattle.record.specs.Members.{is_member}
use Rattle.record.specs.Ring.{current, ids, this_ring, token_members}
use Rattle.record.specs.Whole.{whole}
use Rattle.record.specs.declared.Record.{Record}
use Rattle.visit.specs.Output.{followed_by, most_frames, most_deliveries}
use Rattle.visit.specs.Deliver.{joined}
use Rattle.visit.specs.Message.{rec_heard, handed_heard, heard_of}
use Rattle.visit.specs.Visit.{Visit, rec', written, handed, visited_of}
use Rattle.visit.specs.Acceptable.{Hearable, Acceptable, covers_held, visit}
use Rattle.visit.specs.declared.hearing.Heard.{Heard}
use Rattle.visit.specs.declared.visiting.Visited.{Visited}
use Rattle.station.specs.Reply.{refused, asks, answered, Does}
use Rattle.station.specs.Arrive.{heard_answer, message_heard, accepted, message_arrived, token_arrived, arrived}
use Rattle.station.specs.declared.answer.Answer.{Answer}
use Rattle.station.specs.declared.answer.Answer.TheVariants.{Accepted}
use Rattle.station.specs.declared.refusal.Refusal.TheVariants.{NoRoom, NotWhole, OtherRing, NotMember, BelowHeld}
use Rattle.station.proofs.DoesLaws.{takes}
use Rattle.station.proofs.ReplyLaws.{asked}
use Rattle.station.proofs.ArrivedCases.{ReadCase, unread, message, token, read-case}

-- ---- a message that is heard, a token that is accepted

pub heard-does : (r : Record) (m : Message) (content : List ℕ) (heard : Heard) (a : Answer) (s s' out out' : List ℕ)
    → length s ≡ record_size
    → (heard ≡ heard_of r m content) × (s' ≡ record_bytes (rec_heard r m content)) × (out' ≡ followed_by (handed_heard r m content) out)
    → a ≡ heard_answer heard.how heard.size
    → Does answered (message_heard r m content) (Ok a) s s' [] [] out out'
unfolding message_heard
heard-does r m content heard a s s' out out' long e says =
    takes (message_heard r m content) (Ok a) s s' [] [] out out' refl long (ap (λ (x : Answer). Ok x) (says ∙ ap (λ (x : Heard). heard_answer x.how x.size) e.0)) e.1 refl e.2

pub accepted-does : (v : Visit) (visited : Visited) (s s' frames frames' out out' : List ℕ)
    → length s ≡ record_size
    → (visited ≡ visited_of v) × (s' ≡ record_bytes (rec' v)) × (frames' ≡ followed_by (joined (written v)) frames) × (out' ≡ followed_by (handed v) out)
    → Does answered (accepted v) (Ok (Accepted visited.frames visited.deliveries visited.deaf)) s s' frames frames' out out'
unfolding accepted
accepted-does v visited s s' frames frames' out out' long e =
    takes (accepted v) _ s s' frames frames' out out' refl long (ap (λ (x : Visited). Ok (Accepted x.frames x.deliveries x.deaf)) e.0) e.1 e.2 e.3

-- ---- 13 and 14, of a message

module _ (r : Record) (m : Message) (content : List ℕ) where
  -- a message writes nothing for the cable
  pub writes_none : (message_arrived r m content).frames ≡ []
  unfolding message_arrived message_heard
  writes_none =
      asked (λ reply. reply.frames ≡ []) r (this_ring (current r).ring.0 (ids (current r)) m.header) OtherRing _ refl (λ this.
      asked (λ reply. reply.frames ≡ []) r (is_member (ids (current r)) m.sender) NotMember _ refl (λ member. refl))

-- ---- the questions are answered 'yes'

pub message-passes : (r : Record) (m : Message) (content : List ℕ) → Hearable r m content → message_arrived r m content ≡ message_heard r m content
unfolding message_arrived
message-passes r m content h = rw (h.of_this_ring, h.member)

pub token-passes : (r : Record) (t : Token) → Acceptable (visit r t) → token_arrived r t ≡ accepted (visit r t)
unfolding token_arrived
token-passes r t a =
    rw (
      a.of_this_ring,
      a.members,
      eq-eqb t.addressee r.own a.here,
      lt-ltb r.turn.number.0 t.number.0 a.newer,
      lt-ltb t.number.0 most_number a.not_last,
      a.covers,
    )

-- 18 alone is answered 'no'
pub token-below : (r : Record) (t : Token)
    → this_ring (current r).ring.0 (ids (current r)) t.header ≡ true
    → token_members (ids (current r)) t ≡ true
    → eqb t.addressee r.own ≡ true
    → ltb r.turn.number.0 t.number.0 ≡ true
    → ltb t.number.0 most_number ≡ true
    → covers_held (current r) t.highest.0 ≡ false
    → token_arrived r t ≡ refused r BelowHeld
unfolding token_arrived
token-below r t this members here newer not_last covers = rw (this, members, here, newer, not_last, covers)

-- ---- what the reader says

reads-message : (s : List ℕ) (reading : Result Frame Unread) (m : Message) → ReadCase s reading → reading ≡ a_message m → message_follows m (content_of s) ≡ true
reads-message s reading m (unread why e) q = absurd (unread-not-message why m (sym e ∙ q))
reads-message s reading m (message m' e f) q = let same : m' ≡ m = cc in rw same at f
reads-message s reading m (token t e f) q = absurd (message-not-token m t (sym q ∙ e))

reads-token : (s : List ℕ) (reading : Result Frame Unread) (t : Token) → ReadCase s reading → reading ≡ a_token t → token_follows t ≡ true
reads-token s reading t (unread why e) q = absurd (unread-not-token why t (sym e ∙ q))
reads-token s reading t (message m e f) q = absurd (message-not-token m t (sym e ∙ q))
reads-token s reading t (token t' e f) q = let same : t' ≡ t = cc in rw same at f

pub message_there : (frame : List ℕ) (m : Message) → read_of frame ≡ a_message m → message_follows m (content_of frame) ≡ true
message_there frame m e = reads-message frame (read_of frame) m (read-case frame) e

pub token_there : (frame : List ℕ) (t : Token) → read_of frame ≡ a_token t → token_follows t ≡ true
token_there frame t e = reads-token frame (read_of frame) t (read-case frame) e

-- ---- 1 and 2

module _ (r : Record) (frame : List ℕ) (frames deliveries : ℕ) where
  abbrev fits : Bool
  fits = leb most_frames frames && leb most_deliveries deliveries

  pub arrived-not-whole : whole r ≡ false → arrived r frame frames deliveries ≡ refused r (cond fits NotWhole NoRoom)
  unfolding arrived
  arrived-not-whole e = rw e (not-whole fits)
    where
      not-whole : (room : Bool) → asks r room NoRoom (refused r NotWhole) ≡ refused r (cond room NotWhole NoRoom)
      not-whole true = refl
      not-whole false = refl
