-- The reader's definition, of a frame whose tests all pass.
use Prim.Native.Nat.{ℕ, ◌≤◌}
use mathlib.Core.Path.{◌≡◌, sym, ap, ◌∙◌}
use mathlib.Core.Bool.{true}
use mathlib.Core.List.{List}
use borrow.Author.Tests.{le-leb, eq-eqb}
use lib.ListN.{length}
use Rattle.words.specs.Word.{word_at}
use Rattle.frames.specs.Layout.{kind_at, header_size, message_kind, configuration_at, content_at, token_kind, requests_at, most_requests, token_size}
use Rattle.frames.specs.Header.{own_size}
use Rattle.frames.specs.Message.{configuration, message_of, content_of, message_follows}
use Rattle.frames.specs.Token.{request_count, token_of, token_follows}
use Rattle.frames.specs.Read.{a_message, a_token, read_message, read_token, read_of}
use Rattle.frames.specs.declared.message.Message.{Message}
use Rattle.frames.specs.declared.token.Token.{Token}

-- question 12 of a message
pub message-right : (s : List ℕ) (m : Message) (content : List ℕ)
    → content_at ≤ length s
    → word_at 4 s configuration_at ≡ configuration
    → m ≡ message_of s
    → content ≡ content_of s
    → message_follows m content ≡ true
    → a_message m ≡ read_message s
unfolding read_message
message-right s m content long zero-there values rest ok =
    simp (values, le-leb _ _ long, eq-eqb _ _ zero-there, rw (values, rest) at ok)

-- question 12 of a token
pub token-right : (s : List ℕ) (t : Token)
    → requests_at ≤ length s
    → request_count s ≤ most_requests
    → length s ≡ token_size (request_count s)
    → t ≡ token_of s
    → token_follows t ≡ true
    → a_token t ≡ read_token s
unfolding read_token
token-right s t long few size values ok =
    simp (values, le-leb _ _ long, le-leb _ _ few, eq-eqb _ _ size, ap token_follows (sym values) ∙ ok)

-- questions 10 and 11
module _ (s : List ℕ) (long : header_size ≤ length s) (exact : length s ≡ own_size s) where
  pub read-as-message : word_at 2 s kind_at ≡ message_kind → read_message s ≡ read_of s
  unfolding read_of
  read-as-message k = simp (le-leb _ _ long, eq-eqb _ _ exact, eq-eqb _ _ k)

  pub read-as-token : word_at 2 s kind_at ≡ token_kind → read_token s ≡ read_of s
  unfolding read_of
  read-as-token k = simp (k, le-leb _ _ long, eq-eqb _ _ exact)
