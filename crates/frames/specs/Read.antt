-- Reading a frame: any list of bytes gives values, or the first of questions 10 to 12 that fails. [document 01, Questions at the door]
use Rattle.std.specs.Prelude.{ℕ, Bool, ◌&&◌, cond, List, length, leb, eqb, Result, Ok, Err}
use Rattle.words.specs.Word.{word_at}
use Rattle.frames.specs.Layout.{kind_at, header_size, configuration_at, content_at, message_kind, requests_at, most_requests, token_kind, token_size}
use Rattle.frames.specs.Refusal.{frame_refusal_number}
use Rattle.frames.specs.Header.{own_size}
use Rattle.frames.specs.Message.{configuration, message_of, content_of, message_follows}
use Rattle.frames.specs.Token.{request_count, token_of, token_follows}
use Rattle.frames.specs.declared.refusal.Refusal.{Refusal}
use Rattle.frames.specs.declared.refusal.Refusal.TheVariants.{WrongLength, OtherKind, Malformed}
use Rattle.frames.specs.declared.message.Message.{Message}
use Rattle.frames.specs.declared.token.Token.{Token}
use Rattle.frames.specs.declared.reader.Frame.{Frame}
use Rattle.frames.specs.declared.reader.Frame.TheVariants.{Message as IsMessage, Token as IsToken}

-- ---- the three outcomes

-- the number that document 01 gives to an answer: 0 where nothing is refused
abbrev pub answer_number : Result Frame Refusal → ℕ
answer_number (Err why) = frame_refusal_number why
answer_number (Ok frame) = 0

abbrev pub unread_as : Refusal → Result Frame Refusal
unread_as why = Err why

abbrev pub a_message : Message → Result Frame Refusal
a_message m = Ok (IsMessage m)

abbrev pub a_token : Token → Result Frame Refusal
a_token t = Ok (IsToken t)

-- ---- the questions

-- 10. Has the frame at least 10 bytes, its length exact?
abbrev pub length_exact : List ℕ → Bool
length_exact s = leb header_size (length s) && eqb (length s) (own_size s)

-- 12, of a message: is it long enough, the configuration zero, and do its values follow?
abbrev pub message_reads : List ℕ → Bool
message_reads s =
    leb content_at (length s)
    && eqb (word_at 4 s configuration_at) configuration
    && message_follows (message_of s) (content_of s)

-- 12, of a token: is it long enough for its fields, of the size that its requests take, and do its values follow?
abbrev pub token_reads : List ℕ → Bool
token_reads s =
    leb requests_at (length s)
    && leb (request_count s) most_requests
    && eqb (length s) (token_size (request_count s))
    && token_follows (token_of s)

unfoldable pub read_message : List ℕ → Result Frame Refusal
read_message s = cond (message_reads s) (a_message (message_of s)) (unread_as Malformed)

unfoldable pub read_token : List ℕ → Result Frame Refusal
read_token s = cond (token_reads s) (a_token (token_of s)) (unread_as Malformed)

-- 11. Is the kind 1 or 2? The one place that goes by the kind: what holds of a message, of a token, of any other
abbrev pub by_kind : {A : Type 0} → ℕ → A → A → A → A
by_kind kind message token other = cond (eqb kind message_kind) message (cond (eqb kind token_kind) token other)

-- the values, or the first question that is answered 'no'
unfoldable pub read_of : List ℕ → Result Frame Refusal
read_of s =
    cond (length_exact s)
    (by_kind (word_at 2 s kind_at) (read_message s) (read_token s) (unread_as OtherKind))
    (unread_as WrongLength)

-- the same in document 01's numbers: the first question that is answered 'no', or 0
unfoldable pub read_number : List ℕ → ℕ
read_number s =
    cond (length_exact s)
    (by_kind (word_at 2 s kind_at) (cond (message_reads s) 0 12) (cond (token_reads s) 0 12) 11)
    10
