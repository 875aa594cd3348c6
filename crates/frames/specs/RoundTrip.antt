-- Frames round-trip both ways: the four statements, for every value and every list of bytes. proofs/Restored.antt and proofs/Rewritten.antt prove them.
use Rattle.std.specs.Prelude.{ℕ, ◌≡◌, true, List}
use Rattle.words.specs.Word.{Bytes}
use Rattle.frames.specs.Message.{content_of, message_follows, message_bytes}
use Rattle.frames.specs.Token.{token_follows, token_bytes}
use Rattle.frames.specs.Read.{read_of, a_message, a_token}
use Rattle.frames.specs.declared.message.Message.{Message}
use Rattle.frames.specs.declared.token.Token.{Token}

-- reading a written message restores its values and its content
abbrev pub MessageRestored : Type 0
MessageRestored = (m : Message) (content : List ℕ) → message_follows m content ≡ true → (read_of (message_bytes m content) ≡ a_message m) × (content_of (message_bytes m content) ≡ content)

-- reading a written token restores its values
abbrev pub TokenRestored : Type 0
TokenRestored = (t : Token) → token_follows t ≡ true → read_of (token_bytes t) ≡ a_token t

-- a message frame that reads is the one that its values write
abbrev pub MessageRewritten : Type 0
MessageRewritten = (s : List ℕ) (m : Message) → Bytes s → read_of s ≡ a_message m → (message_follows m (content_of s) ≡ true) × (message_bytes m (content_of s) ≡ s)

-- a token frame that reads is the one that its values write
abbrev pub TokenRewritten : Type 0
TokenRewritten = (s : List ℕ) (t : Token) → Bytes s → read_of s ≡ a_token t → (token_follows t ≡ true) × (token_bytes t ≡ s)
