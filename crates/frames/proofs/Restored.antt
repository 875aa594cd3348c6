-- Reading what was written restores the values.
use Prim.Native.Nat.{ℕ, ◌+◌, ◌-◌, ◌^◌, ◌<◌, ◌≤◌}
use mathlib.Core.Path.{◌≡◌, refl, sym, ap, ◌∙◌}
use mathlib.Core.Bool.{true, false, and-false}
use mathlib.Core.List.{List, [], ◌++◌, append-nil}
use borrow.Author.Tests.{ne_eqb, leb-true}
use native.Mathlib.Omega.{arith}
use lib.ListN.{length, get_or, take, drop, replicate, length-drop, take-append-drop}
use lib.Dec.{leb}
use lib.Seq.{length-take-le}
use Rattle.words.specs.Word.{word_at, word_of, word_bytes}
use Rattle.words.specs.Run.{words, words_bytes}
use Rattle.words.proofs.WordLaws.{word_back}
use Rattle.words.proofs.RunLaws.{words_back}
use Rattle.words.proofs.ScanLaws.{within-most, zeros-are}
use Rattle.frames.specs.Number.{most_number, most_id}
use Rattle.frames.specs.Layout.{length_at, length_size, kind_at, header_size, configuration_at, message_kind, message_size, most_requests, token_kind, token_size}
use Rattle.frames.specs.Header.{header_of, header_follows, header_bytes}
use Rattle.frames.specs.Message.{configuration, message_of, content_of, message_fixed, message_bytes}
use Rattle.frames.specs.Token.{blocker_of, blocker_id, blocker_follows, request_count, request_numbers, requests_of, token_of, token_fixed, token_bytes}
use Rattle.frames.specs.RoundTrip.{MessageRestored, TokenRestored}
use Rattle.frames.specs.declared.number.MessageNumber.{MessageNumber}
use Rattle.std.specs.Prelude.{Option, Some, None}
use Rattle.frames.specs.declared.token.Token.{Token}
use Rattle.frames.specs.declared.header.Header.{Header}
use Rattle.frames.specs.declared.message.Message.{Message}
use Rattle.frames.proofs.NumberedLaws.{numbered-back}
use Rattle.frames.proofs.Facts.{part, header-facts, MessageFacts, message-facts, RequestFacts, TokenFacts, token-facts}
use Rattle.frames.proofs.Sizes.{message-length, token-length}
use Rattle.frames.proofs.ReadLaws.{read-as-message, read-as-token, message-right, token-right}

-- ---- the header, of any kind

header-same : (h : Header) (ring representative : ℕ)
    → ring ≡ h.ring.0
    → representative ≡ h.representative
    → record { ring = record { 0 = ring }; representative = representative } ≡ h
header-same h ring representative e f = rw (e, f)

header-back : (size kind : ℕ) (h : Header) (rest : List ℕ) → header_follows h ≡ true → header_of (header_bytes size kind h ++ rest) ≡ h
unfolding word_at word_of word_bytes header_of header_bytes
header-back size kind h rest follows =
    let facts = header-facts h follows in
    header-same h _ _ (word_back 4 h.ring.0 (omega (arith, facts.ring.high))) (word_back 2 h.representative (omega (arith, facts.representative.high)))

-- ---- a message

message-same : (m : Message) (header : Header) (sender number service : ℕ)
    → header ≡ m.header
    → sender ≡ m.sender
    → number ≡ m.number.0
    → service ≡ m.service
    → record { header = header; sender = sender; number = record { 0 = number }; service = service } ≡ m
message-same m header sender number service e f g h = rw (e, f, g, h)

module _ (m : Message) (content : List ℕ) (facts : MessageFacts m content) where
  message-length-back : word_at 2 (message_bytes m content) length_at ≡ message_size (length content) - length_size
  unfolding word_at word_of word_bytes header_bytes message_fixed
  message-length-back = word_back 2 (message_size (length content) - length_size) (omega (arith, facts.short))

  message-back : message_of (message_bytes m content) ≡ m
  unfolding word_at word_of word_bytes header_of header_bytes message_fixed message_of
  message-back =
      message-same m _ _ _ _
      (header-back (message_size (length content)) message_kind m.header (drop header_size (message_bytes m content)) facts.header)
      (word_back 2 m.sender (omega (arith, facts.sender.high)))
      (word_back 4 m.number.0 (omega (arith, facts.number.high)))
      (word_back 2 m.service (omega (arith, facts.service)))

message-kind : (m : Message) (content : List ℕ) → word_at 2 (message_bytes m content) kind_at ≡ message_kind
unfolding word_at word_of word_bytes header_bytes message_fixed
message-kind m content = refl

message-configuration : (m : Message) (content : List ℕ) → word_at 4 (message_bytes m content) configuration_at ≡ configuration
unfolding word_at word_of word_bytes header_bytes message_fixed
message-configuration m content = refl

message-content : (m : Message) (content : List ℕ) → content_of (message_bytes m content) ≡ content
unfolding word_bytes header_bytes message_fixed
message-content m content = refl

pub message-restored : MessageRestored
message-restored m content follows =
    let s = message_bytes m content in
    let facts = message-facts m content follows in
    let size : length s ≡ message_size (length content) = message-length m content in
    let exact : length s ≡ length_size + word_at 2 s length_at = omega (arith, size, message-length-back m content facts) in
    let rest = message-content m content in
    let right = message-right s m content (omega (arith, size)) (message-configuration m content) (sym (message-back m content facts)) (sym rest) follows in
    (sym (read-as-message s (omega (arith, size)) exact (message-kind m content)) ∙ sym right, rest)

-- ---- a token

blocker-back : (b : Option ℕ) (aru highest : ℕ) → blocker_follows b aru highest ≡ true → (blocker_id b < 65536) × (blocker_of (blocker_id b) ≡ b)
blocker-back None aru highest e = (omega arith, refl)
blocker-back (Some id) aru highest e =
    let low : 1 ≤ id = leb-true 1 id (part e (λ (f : leb 1 id ≡ false). simp (f, and-false))) in
    let high : id ≤ most_id = leb-true id most_id (part e (λ (f : leb id most_id ≡ false). simp (f, and-false))) in
    let some : id ≡ 0 → ⊥ = omega arith in
    (omega arith, rw (ne_eqb id 0 some))

-- the requests, read back from their bytes and padded with zeros
requests-back : (n : ℕ) (requests : List ℕ) (highest : ℕ)
    → highest ≤ most_number
    → RequestFacts n requests highest
    → words 4 n (words_bytes 4 (take n requests)) ++ replicate (most_requests - n) 0 ≡ requests
requests-back n requests highest most facts =
    let few : n ≤ length requests = omega (arith, facts.few, facts.places) in
    let size : length (take n requests) ≡ n = length-take-le n requests few in
    let rest : length (drop n requests) ≡ most_requests - n = length-drop n requests ∙ rw facts.places in
    let below : (i : ℕ) → get_or (take n requests) i 0 < 256 ^ 4 = λ i. omega (arith, within-most 1 highest (take n requests) facts.known i) in
    let first : words 4 n (words_bytes 4 (take n requests)) ≡ take n requests = rw (size, append-nil) at (words_back 4 (take n requests) [] below) in
    let zeros : drop n requests ≡ replicate (most_requests - n) 0 = rw rest at (zeros-are (drop n requests) facts.rest) in
    rw (first, ← zeros) (take-append-drop n requests)

token-same : (t : Token) (header : Header) (addressee number highest aru : ℕ) (blocker : Option ℕ) (round backlog count : ℕ) (requests : List MessageNumber)
    → header ≡ t.header
    → addressee ≡ t.addressee
    → number ≡ t.number.0
    → highest ≡ t.highest.0
    → aru ≡ t.aru.0
    → blocker ≡ t.blocker
    → round ≡ t.round
    → backlog ≡ t.backlog
    → count ≡ t.count
    → requests ≡ t.requests
    → record { header = header; addressee = addressee; number = record { 0 = number }; highest = record { 0 = highest }; aru = record { 0 = aru }; blocker = blocker; round = round; backlog = backlog; count = count; requests = requests } ≡ t
token-same t header addressee number highest aru blocker round backlog count requests e₁ e₂ e₃ e₄ e₅ e₆ e₇ e₈ e₉ e₁₀ = rw (e₁, e₂, e₃, e₄, e₅, e₆, e₇, e₈, e₉, e₁₀)

module _ (t : Token) (facts : TokenFacts t) where
  token-length-back : word_at 2 (token_bytes t) length_at ≡ token_size t.count - length_size
  unfolding word_at word_of word_bytes header_bytes token_fixed
  token-length-back = word_back 2 (token_size t.count - length_size) (omega (arith, facts.requests.few))

  token-count-back : request_count (token_bytes t) ≡ t.count
  unfolding word_at word_of word_bytes header_bytes token_fixed
  token-count-back = word_back 2 t.count (omega (arith, facts.requests.few))

  token-requests-back : requests_of t.count (token_bytes t) ≡ request_numbers t
  unfolding requests_of word_bytes header_bytes token_fixed
  token-requests-back = requests-back t.count (request_numbers t) t.highest.0 facts.highest facts.requests

  token_back : token_of (token_bytes t) ≡ t
  unfolding word_at word_of word_bytes header_of header_bytes token_fixed token_of
  token_back =
      let blocked = blocker-back t.blocker t.aru.0 t.highest.0 facts.blocker in
      token-same t _ _ _ _ _ _ _ _ _ _
      (header-back (token_size t.count) token_kind t.header (drop header_size (token_bytes t)) facts.header)
      (word_back 2 t.addressee (omega (arith, facts.addressee.high)))
      (word_back 4 t.number.0 (omega (arith, facts.number.high)))
      (word_back 4 t.highest.0 (omega (arith, facts.highest)))
      (word_back 4 t.aru.0 (omega (arith, facts.aru, facts.highest)))
      (ap blocker_of (word_back 2 (blocker_id t.blocker) blocked.0) ∙ blocked.1)
      (word_back 2 t.round (omega (arith, facts.round)))
      (word_back 2 t.backlog (omega (arith, facts.backlog)))
      token-count-back
      (rw (token-count-back, token-requests-back, numbered-back))

token-kind : (t : Token) → word_at 2 (token_bytes t) kind_at ≡ token_kind
unfolding word_at word_of word_bytes header_bytes token_fixed
token-kind t = refl

pub token-restored : TokenRestored
token-restored t follows =
    let s = token_bytes t in
    let facts = token-facts t follows in
    let count = token-count-back t facts in
    let size : length s ≡ token_size t.count = token-length t (omega (arith, facts.requests.few, facts.requests.places)) in
    let exact : length s ≡ length_size + word_at 2 s length_at = omega (arith, size, token-length-back t facts) in
    let right = token-right s t (omega (arith, size)) (omega (arith, count, facts.requests.few)) (omega (arith, size, count)) (sym (token_back t facts)) follows in
    sym (read-as-token s (omega (arith, size)) exact (token-kind t)) ∙ sym right
