-- A frame that reads is the one that its values write.
use Prim.Native.Nat.{ℕ, zero, suc, ◌-◌, ◌*◌, ◌≤◌}
use mathlib.Core.Path.{◌≡◌, refl, sym, ap}
use mathlib.Core.Bool.{Bool, true, false, cond, and-false}
use mathlib.Core.List.{List, [], ◌++◌, append_assoc, append-nil}
use borrow.Author.Tests.{ne_eqb, eqb-true, leb-true}
use native.Mathlib.Omega.{arith}
use lib.ListN.{length, take, drop, replicate, length-drop, drop_of_length-le}
use lib.Dec.{leb, eqb}
use lib.Seq.{take_at}
use Rattle.words.specs.Word.{Bytes, word_at}
use Rattle.words.specs.Run.{words, words_bytes}
use Rattle.words.proofs.WordLaws.{word_split, bytes_drop}
use Rattle.words.proofs.RunLaws.{length-words, words-there}
use Rattle.frames.specs.Layout.{length_at, length_size, kind_at, ring_at, representative_at, header_size, sender_at, message_number_at, configuration_at, service_at, content_at, message_kind, message_size, addressee_at, token_number_at, highest_at, aru_at, blocker_at, round_at, backlog_at, count_at, requests_at, most_requests, token_kind, token_size}
use Rattle.frames.specs.Header.{own_size, header_of, header_bytes}
use Rattle.frames.specs.Message.{configuration, message_of, content_of, message_follows, message_fixed, message_bytes}
use Rattle.frames.specs.Token.{blocker_of, blocker_id, request_count, requests_of, token_of, token_follows, token_fixed, token_bytes}
use Rattle.frames.specs.Read.{unread_as, a_message, a_token, length_exact, message_reads, token_reads, read_message, read_token, by_kind, read_of}
use Rattle.frames.specs.RoundTrip.{MessageRewritten, TokenRewritten}
use Rattle.frames.specs.declared.refusal.Refusal.{Refusal}
use Rattle.frames.specs.declared.refusal.Refusal.TheVariants.{WrongLength, OtherKind, Malformed}
use Rattle.frames.specs.declared.message.Message.{Message}
use Rattle.frames.specs.declared.token.Token.{Token}
use Rattle.std.specs.Prelude.{Result, Ok, Err}
use Rattle.frames.specs.declared.reader.Frame.{Frame}
use Rattle.frames.specs.declared.reader.Frame.TheVariants.{Message as IsMessage, Token as IsToken}
use Rattle.frames.proofs.NumberedLaws.{numbers-back}
use Rattle.frames.proofs.Facts.{part}

-- ---- which way the reader went

cond-first : (b : Bool) (x y z : Result Frame Refusal) → cond b x y ≡ z → (y ≡ z → ⊥) → (b ≡ true) × (x ≡ z)
cond-first true x y z e other = (refl, e)
cond-first false x y z e other = absurd (other e)

cond-second : (b : Bool) (x y z : Result Frame Refusal) → cond b x y ≡ z → (x ≡ z → ⊥) → (b ≡ false) × (y ≡ z)
cond-second true x y z e other = absurd (other e)
cond-second false x y z e other = (refl, e)

cond-neither : (b : Bool) (x y z : Result Frame Refusal) → (x ≡ z → ⊥) → (y ≡ z → ⊥) → cond b x y ≡ z → ⊥
cond-neither true x y z p q e = p e
cond-neither false x y z p q e = q e

-- which of the three answers: it tells them apart
which : Result Frame Refusal → ℕ
which (Err why) = 0
which (Ok (IsMessage m)) = 1
which (Ok (IsToken t)) = 2

apart : (x y : Result Frame Refusal) → x ≡ y → which x ≡ which y
apart x y e = ap which e

pub message-not-token : (m : Message) (t : Token) → a_message m ≡ a_token t → ⊥
unfolding which
message-not-token m t e = omega (arith, apart (a_message m) (a_token t) e)

pub unread-not-message : (why : Refusal) (m : Message) → unread_as why ≡ a_message m → ⊥
unfolding which
unread-not-message why m e = omega (arith, apart (unread_as why) (a_message m) e)

pub unread-not-token : (why : Refusal) (t : Token) → unread_as why ≡ a_token t → ⊥
unfolding which
unread-not-token why t e = omega (arith, apart (unread_as why) (a_token t) e)

-- as long as its length field says
pub record Exact (s : List ℕ) : Type 0 where
  pub long : header_size ≤ length s
  pub size : length s ≡ own_size s

exact-facts : (s : List ℕ) → length_exact s ≡ true → Exact s
exact-facts s e =
    record {
      long = leb-true header_size (length s) (part e (λ (f : leb header_size (length s) ≡ false). rw f));
      size = eqb-true (length s) (own_size s) (part e (λ (f : eqb (length s) (own_size s) ≡ false). simp (f, and-false)));
    }

-- the way in, for whatever is read but a refusal
record Entered (s : List ℕ) (z : Result Frame Refusal) : Type 0 where
  exact : Exact s
  by-kind : by_kind (word_at 2 s kind_at) (read_message s) (read_token s) (unread_as OtherKind) ≡ z

entered : (s : List ℕ) (z : Result Frame Refusal) → ((why : Refusal) → unread_as why ≡ z → ⊥) → read_of s ≡ z → Entered s z
unfolding read_of
entered s z read e =
    let first = cond-first (length_exact s) (by_kind (word_at 2 s kind_at) (read_message s) (read_token s) (unread_as OtherKind)) (unread_as WrongLength) z e (read WrongLength) in
    record { exact = exact-facts s first.0; by-kind = first.1 }

-- ---- the header

header-there : (s : List ℕ) (size kind : ℕ)
    → Bytes s
    → header_size ≤ length s
    → size - length_size ≡ word_at 2 s length_at
    → kind ≡ word_at 2 s kind_at
    → header_bytes size kind (header_of s) ++ drop header_size s ≡ s
unfolding header_bytes header_of
header-there s size kind b long sized kinded =
    let w₁ = word_split 2 s length_at b (omega arith) in
    let w₂ = word_split 2 s kind_at b (omega arith) in
    let w₃ = word_split 4 s ring_at b (omega arith) in
    let w₄ = word_split 2 s representative_at b (omega arith) in
    rw (sized, kinded) (simp append_assoc (rw (w₄, w₃, w₂) w₁))

-- ---- a message

pub record ReadsMessage (s : List ℕ) (m : Message) : Type 0 where
  pub exact : Exact s
  pub kind : word_at 2 s kind_at ≡ message_kind
  pub long : content_at ≤ length s
  pub configured : word_at 4 s configuration_at ≡ configuration
  pub follows : message_follows (message_of s) (content_of s) ≡ true
  pub values : message_of s ≡ m

pub message-read : (s : List ℕ) (m : Message) → read_of s ≡ a_message m → ReadsMessage s m
unfolding read_message read_token
message-read s m e =
    let kind = word_at 2 s kind_at in
    let read : (why : Refusal) → unread_as why ≡ a_message m → ⊥ = λ why. unread-not-message why m in
    let way = entered s (a_message m) read e in
    let no-token : read_token s ≡ a_message m → ⊥ = cond-neither (token_reads s) (a_token (token_of s)) (unread_as Malformed) (a_message m) (λ f. message-not-token m (token_of s) (sym f)) (read Malformed) in
    let no_other = cond-neither (eqb kind token_kind) (read_token s) (unread_as OtherKind) (a_message m) no-token (read OtherKind) in
    let kinded = cond-first (eqb kind message_kind) (read_message s) (cond (eqb kind token_kind) (read_token s) (unread_as OtherKind)) (a_message m) way.by-kind no_other in
    let reads = cond-first (message_reads s) (a_message (message_of s)) (unread_as Malformed) (a_message m) kinded.1 (read Malformed) in
    let answer : a_message (message_of s) ≡ a_message m = reads.1 in
    record {
      exact = way.exact;
      kind = eqb-true kind message_kind kinded.0;
      long = leb-true content_at (length s) (part reads.0 (λ (f : leb content_at (length s) ≡ false). rw f));
      configured = eqb-true (word_at 4 s configuration_at) configuration (part reads.0 (λ (f : eqb (word_at 4 s configuration_at) configuration ≡ false). simp (f, and-false)));
      follows = part reads.0 (λ (f : message_follows (message_of s) (content_of s) ≡ false). simp (f, and-false));
      values = cc;
    }

message-there : (s : List ℕ)
    → Bytes s
    → content_at ≤ length s
    → word_at 4 s configuration_at ≡ configuration
    → message_size (length (content_of s)) - length_size ≡ word_at 2 s length_at
    → word_at 2 s kind_at ≡ message_kind
    → message_bytes (message_of s) (content_of s) ≡ s
unfolding message_fixed message_of
message-there s b long configured sized kinded =
    let h = header-there s (message_size (length (content_of s))) message_kind b (omega arith) sized (sym kinded) in
    let w₂ = word_split 2 s sender_at b (omega arith) in
    let w₃ = word_split 4 s message_number_at b (omega arith) in
    let w₄ = word_split 4 s configuration_at b (omega arith) in
    let w₅ = word_split 2 s service_at b (omega arith) in
    rw (← configured) (simp append_assoc (rw (w₅, w₄, w₃, w₂) h))

pub message-rewritten : MessageRewritten
message-rewritten s m b e =
    let r = message-read s m e in
    let sized : message_size (length (content_of s)) - length_size ≡ word_at 2 s length_at = rw length-drop (omega (arith, r.long, r.exact.size)) in
    rw (← r.values) (r.follows, message-there s b r.long r.configured sized r.kind)

-- ---- a token

pub record ReadsToken (s : List ℕ) (t : Token) : Type 0 where
  pub exact : Exact s
  pub kind : word_at 2 s kind_at ≡ token_kind
  pub size : length s ≡ token_size (request_count s)
  pub follows : token_follows (token_of s) ≡ true
  pub values : token_of s ≡ t

pub token-read : (s : List ℕ) (t : Token) → read_of s ≡ a_token t → ReadsToken s t
unfolding read_message read_token
token-read s t e =
    let kind = word_at 2 s kind_at in
    let read : (why : Refusal) → unread_as why ≡ a_token t → ⊥ = λ why. unread-not-token why t in
    let way = entered s (a_token t) read e in
    let no-message : read_message s ≡ a_token t → ⊥ = cond-neither (message_reads s) (a_message (message_of s)) (unread_as Malformed) (a_token t) (message-not-token (message_of s) t) (read Malformed) in
    let other = cond-second (eqb kind message_kind) (read_message s) (cond (eqb kind token_kind) (read_token s) (unread_as OtherKind)) (a_token t) way.by-kind no-message in
    let kinded = cond-first (eqb kind token_kind) (read_token s) (unread_as OtherKind) (a_token t) other.1 (read OtherKind) in
    let reads = cond-first (token_reads s) (a_token (token_of s)) (unread_as Malformed) (a_token t) kinded.1 (read Malformed) in
    record {
      exact = way.exact;
      kind = eqb-true kind token_kind kinded.0;
      size = eqb-true (length s) (token_size (request_count s)) (part reads.0 (λ (f : eqb (length s) (token_size (request_count s)) ≡ false). simp (f, and-false)));
      follows = part reads.0 (λ (f : token_follows (token_of s) ≡ false). simp (f, and-false));
      values = let answer : a_token (token_of s) ≡ a_token t = reads.1 in cc;
    }

blocker-there : (id : ℕ) → blocker_id (blocker_of id) ≡ id
blocker-there zero = refl
blocker-there (suc id) = let some : suc id ≡ 0 → ⊥ = omega arith in rw (ne_eqb (suc id) 0 some)

requests-there : (s : List ℕ) (n : ℕ) → Bytes s → length s ≡ token_size n → words_bytes 4 (take n (requests_of n s)) ≡ drop requests_at s
unfolding requests_of
requests-there s n b size =
    let rest = drop requests_at s in
    let long : length rest ≡ 4 * n = rw length-drop (omega arith) in
    let first : take n (words 4 n rest ++ replicate (most_requests - n) 0) ≡ words 4 n rest = take_at (words 4 n rest) _ n (length-words 4 n rest) in
    let none : drop (4 * n) rest ≡ [] = drop_of_length-le rest {i = 4 * n} (omega (arith, long)) in
    let there : words_bytes 4 (words 4 n rest) ++ [] ≡ rest = rw none at (words-there 4 n rest (bytes_drop requests_at s b) (omega (arith, long))) in
    rw first (rw append-nil at there)

token-there : (s : List ℕ)
    → Bytes s
    → length s ≡ token_size (request_count s)
    → token_size (request_count s) - length_size ≡ word_at 2 s length_at
    → word_at 2 s kind_at ≡ token_kind
    → token_bytes (token_of s) ≡ s
unfolding token_fixed token_of
token-there s b size sized kinded =
    let h = header-there s (token_size (request_count s)) token_kind b (omega arith) sized (sym kinded) in
    let w₂ = word_split 2 s addressee_at b (omega arith) in
    let w₃ = word_split 4 s token_number_at b (omega arith) in
    let w₄ = word_split 4 s highest_at b (omega arith) in
    let w₅ = word_split 4 s aru_at b (omega arith) in
    let w₆ = word_split 2 s blocker_at b (omega arith) in
    let w₇ = word_split 2 s round_at b (omega arith) in
    let w₈ = word_split 2 s backlog_at b (omega arith) in
    let w₉ = word_split 2 s count_at b (omega arith) in
    rw (numbers-back, requests-there s (request_count s) b size, blocker-there) (simp append_assoc (rw (w₉, w₈, w₇, w₆, w₅, w₄, w₃, w₂) h))

pub token-rewritten : TokenRewritten
token-rewritten s t b e =
    let r = token-read s t e in
    let sized : token_size (request_count s) - length_size ≡ word_at 2 s length_at = omega (arith, r.size, r.exact.size) in
    rw (← r.values) (r.follows, token-there s b r.size sized r.kind)
