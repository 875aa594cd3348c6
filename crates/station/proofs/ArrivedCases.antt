-- What an arrival comes to: a refusal, a message that is heard, or a token that is accepted.
use Prim.Native.Nat.{ℕ}
use mathlib.Core.Path.{◌≡◌, refl}
use mathlib.Core.Bool.{Bool, true, false, ◌&&◌, cond, and-false}
use mathlib.Core.List.{List}
use borrow.Author.Tests.{ltb-true, eqb-true}
use lib.Dec.{leb, ltb, eqb}
use Rattle.words.specs.Word.{word_at}
use Rattle.frames.specs.Number.{most_number}
use Rattle.frames.specs.Layout.{kind_at, message_kind, token_kind}
use Rattle.frames.specs.Message.{message_of, content_of, message_follows}
use Rattle.frames.specs.Token.{token_of, token_follows}
use Rattle.frames.specs.Read.{unread_as, a_message, a_token, length_exact, message_reads, token_reads, read_message, read_token, read_of}
use Rattle.frames.specs.declared.refusal.Refusal.{Refusal as Unread}
use Rattle.frames.specs.declared.refusal.Refusal.TheVariants.{WrongLength as ReadLength, OtherKind as ReadKind, Malformed as ReadLayout}
use Rattle.frames.specs.declared.message.Message.{Message}
use Rattle.frames.specs.declared.token.Token.{Token}
use Rattle.std.specs.Prelude.{Result}
use Rattle.frames.specs.declared.reader.Frame.{Frame}
use Rattle.frames.proofs.Facts.{part}
use Rattle.record.specs.Members.{is_member}
use Rattle.record.specs.Ring.{current, ids, this_ring, token_members}
use Rattle.record.specs.Whole.{whole}
use Rattle.record.specs.declared.Record.{Record}
use Rattle.station.specs.Reply.{Reply, asks}
use Rattle.visit.specs.Output.{most_frames, most_deliveries}
use Rattle.station.specs.Arrive.{reader_refusal, message_arrived, token_arrived, frame_arrived, arrived}
use Rattle.visit.specs.Acceptable.{covers_held}
use Rattle.station.specs.EveryArrival.{ArrivedCase, refuses, hears, accepts, ArrivedCases}
use Rattle.station.specs.declared.refusal.Refusal.{Refusal}
use Rattle.station.specs.declared.refusal.Refusal.TheVariants.{NoRoom, NotWhole, OtherRing, NotMember, OtherAddressee, OldToken, LastToken, BelowHeld}
use Rattle.station.proofs.ReplyLaws.{asked}

-- ---- what the reader says; the values follow the layout

pub data ReadCase (s : List ℕ) (reading : Result Frame Unread) : Type 0 where
  unread : (why : Unread) → reading ≡ unread_as why → ReadCase s reading
  message : (m : Message) → reading ≡ a_message m → message_follows m (content_of s) ≡ true → ReadCase s reading
  token : (t : Token) → reading ≡ a_token t → token_follows t ≡ true → ReadCase s reading

module _ (s : List ℕ) where
  message-case : (b : Bool) → message_reads s ≡ b → ReadCase s (cond b (a_message (message_of s)) (unread_as ReadLayout))
  message-case true e = message (message_of s) refl (part e (λ (f : message_follows (message_of s) (content_of s) ≡ false). simp (f, and-false)))
  message-case false e = unread ReadLayout refl

  token-case : (b : Bool) → token_reads s ≡ b → ReadCase s (cond b (a_token (token_of s)) (unread_as ReadLayout))
  token-case true e = token (token_of s) refl (part e (λ (f : token_follows (token_of s) ≡ false). simp (f, and-false)))
  token-case false e = unread ReadLayout refl

  kind-case : (exact a b : Bool) (x y : Result Frame Unread) → ReadCase s x → ReadCase s y → ReadCase s (cond exact (cond a x (cond b y (unread_as ReadKind))) (unread_as ReadLength))
  kind-case true true b x y p q = p
  kind-case true false true x y p q = q
  kind-case true false false x y p q = unread ReadKind refl
  kind-case false a b x y p q = unread ReadLength refl

  pub read-case : ReadCase s (read_of s)
  unfolding read_of read_message read_token
  read-case =
      kind-case (length_exact s) (eqb (word_at 2 s kind_at) message_kind) (eqb (word_at 2 s kind_at) token_kind) (read_message s) (read_token s)
      (message-case (message_reads s) refl)
      (token-case (token_reads s) refl)

-- ---- the three outcomes

module _ (r : Record) (frame : List ℕ) where
  ask : (question : Bool) (why : Refusal) (rest : Reply) → (question ≡ true → ArrivedCase r frame rest) → ArrivedCase r frame (asks r question why rest)
  ask question why rest = asked (ArrivedCase r frame) r question why rest (refuses why refl)

  module _ (w : whole r ≡ true) where
    pub message-arrives : (m : Message) → read_of frame ≡ a_message m → message_follows m (content_of frame) ≡ true → ArrivedCase r frame (message_arrived r m (content_of frame))
    unfolding message_arrived
    message-arrives m read follows =
        ask (this_ring (current r).ring.0 (ids (current r)) m.header) OtherRing _ (λ this.
        ask (is_member (ids (current r)) m.sender) NotMember _ (λ member.
        hears m read (record { whole_record = w; follows = follows; of_this_ring = this; member = member }) refl))

    pub token-arrives : (t : Token) → read_of frame ≡ a_token t → token_follows t ≡ true → ArrivedCase r frame (token_arrived r t)
    unfolding token_arrived
    token-arrives t read follows =
        ask (this_ring (current r).ring.0 (ids (current r)) t.header) OtherRing _ (λ this.
        ask (token_members (ids (current r)) t) NotMember _ (λ members.
        ask (eqb t.addressee r.own) OtherAddressee _ (λ here.
        ask (ltb r.turn.number.0 t.number.0) OldToken _ (λ newer.
        ask (ltb t.number.0 most_number) LastToken _ (λ before.
        ask (covers_held (current r) t.highest.0) BelowHeld _ (λ covers.
        accepts t read
        (record {
          whole_record = w;
          follows = follows;
          of_this_ring = this;
          members = members;
          here = eqb-true t.addressee r.own here;
          newer = ltb-true r.turn.number.0 t.number.0 newer;
          not_last = ltb-true t.number.0 most_number before;
          covers = covers;
        })
        refl))))))

    frame-arrives : ReadCase frame (read_of frame) → ArrivedCase r frame (frame_arrived r frame (read_of frame))
    frame-arrives (unread why e) = refuses (reader_refusal why) (rw e)
    frame-arrives (message m e follows) = rw e (message-arrives m e follows)
    frame-arrives (token t e follows) = rw e (token-arrives t e follows)

  case : (frames deliveries : ℕ) → ArrivedCase r frame (arrived r frame frames deliveries)
  unfolding arrived
  case frames deliveries =
      ask (leb most_frames frames && leb most_deliveries deliveries) NoRoom _ (λ room.
      ask (whole r) NotWhole _ (λ w.
      frame-arrives w (read-case frame)))

pub arrived-case : ArrivedCases
arrived-case r frame = case r frame
