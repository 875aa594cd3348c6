-- How many bytes each part of a frame has.
use Prim.Native.Nat.{ℕ, ◌<◌, ◌≤◌}
use mathlib.Core.Path.{◌≡◌, refl}
use mathlib.Core.Bool.{Bool, true, false, cond}
use mathlib.Core.List.{List}
use borrow.Author.Tests.{leb-false}
use native.Mathlib.Omega.{arith}
use lib.Dec.{leb}
use Rattle.std.specs.Prelude.{Some, None}
use lib.ListN.{length, length-append}
use lib.Seq.{length-take-le}
use Rattle.words.proofs.WordLaws.{length-word}
use Rattle.words.proofs.RunLaws.{length-words-bytes}
use Rattle.frames.specs.Layout.{length_size, header_size, content_at, message_size, requests_at, token_size}
use Rattle.frames.specs.Header.{own_size, framed_size, header_bytes}
use Rattle.frames.specs.Message.{message_fixed, message_bytes}
use Rattle.frames.specs.Token.{request_numbers, token_counts, token_fixed, token_bytes}
use Rattle.frames.specs.declared.header.Header.{Header}
use Rattle.frames.specs.declared.message.Message.{Message}
use Rattle.frames.specs.declared.token.Token.{Token}

pub header-length : (size kind : ℕ) (h : Header) → length (header_bytes size kind h) ≡ header_size
unfolding header_bytes
header-length size kind h = simp (length-append, length-word)

pub message-fixed-length : (m : Message) (size : ℕ) → length (message_fixed m size) ≡ content_at
unfolding message_fixed
message-fixed-length m size = simp (length-append, length-word, header-length)

pub message-length : (m : Message) (content : List ℕ) → length (message_bytes m content) ≡ message_size (length content)
message-length m content = simp (length-append, message-fixed-length)

pub counts-length : (t : Token) → length (token_counts t) ≡ 6
counts-length t = simp (length-append, length-word)

pub token-fixed-length : (t : Token) → length (token_fixed t) ≡ requests_at
unfolding token_fixed
token-fixed-length t = simp (length-append, length-word, header-length)

pub token-length : (t : Token) → t.count ≤ length (request_numbers t) → length (token_bytes t) ≡ token_size t.count
token-length t few = simp (length-append, token-fixed-length, length-words-bytes, length-take-le t.count (request_numbers t) few)

-- ---- a stream

none-framed : (b : Bool) (n : ℕ) → cond b (Some n) None ≡ None → b ≡ false
none-framed true n e = cc
none-framed false n e = refl

pub framed-none : (s : List ℕ) → framed_size s ≡ None → length s < length_size
unfolding framed_size
framed-none s e = leb-false length_size (length s) (none-framed (leb length_size (length s)) (own_size s) e)

some-framed : (b : Bool) (n k : ℕ) → cond b (Some n) None ≡ Some k → n ≡ k
some-framed true n k e = cc
some-framed false n k e = let z : ◌≡◌ {A = ℕ} 0 1 = cc in absurd (omega arith)

-- what is found is the size by the length field
pub framed-is : (s : List ℕ) (n : ℕ) → framed_size s ≡ Some n → own_size s ≡ n
unfolding framed_size
framed-is s n e = some-framed (leb length_size (length s)) (own_size s) n e
