-- The first lines of the stored capture and the shortest frame, computed from the definitions.
use Prim.Native.Nat.{ℕ}
use mathlib.Core.Path.{◌≡◌, refl}
use mathlib.Core.List.{List, [], ◌∷◌, flatten}
use Rattle.words.specs.Word.{word_at, word_of}
use Rattle.words.specs.Run.{words_as}
use Rattle.words.specs.Scan.{every}
use Rattle.frames.specs.Header.{header_of, header_follows}
use Rattle.frames.specs.Message.{message_of, message_follows}
use Rattle.frames.specs.Token.{numbers_in, numbered, requests_of, requests_follow, token_of, token_follows}
use Rattle.frames.specs.Read.{read_message, read_token, read_of}
use Rattle.text.specs.Text.{ascii, digits_to}
use Rattle.dump.specs.Line.{line_text, line_of}

abbrev message : List ℕ
message = 23 ∷ 0 ∷ 1 ∷ 0 ∷ 4 ∷ 0 ∷ 0 ∷ 0 ∷ 3 ∷ 0 ∷ 7 ∷ 0 ∷ 12 ∷ 0 ∷ 0 ∷ 0 ∷ 0 ∷ 0 ∷ 0 ∷ 0 ∷ 1 ∷ 0 ∷ 117 ∷ 112 ∷ 10 ∷ []

pub message-line : line_of message ≡ ascii "message ring=4 rep=3 sender_id=7 seq=12 conf_id=0 service=1 contents=\"up\\x0a\"\n"
unfolding line_text flatten read_of word_at word_of read_message read_token message_of message_follows header_of header_follows digits_to
message-line = refl

abbrev token : List ℕ
token = 38 ∷ 0 ∷ 2 ∷ 0 ∷ 4 ∷ 0 ∷ 0 ∷ 0 ∷ 3 ∷ 0 ∷ 7 ∷ 0 ∷ 2 ∷ 0 ∷ 0 ∷ 0 ∷ 3 ∷ 0 ∷ 0 ∷ 0 ∷ 2 ∷ 0 ∷ 0 ∷ 0 ∷ 7 ∷ 0 ∷ 1 ∷ 0 ∷ 5 ∷ 0 ∷ 2 ∷ 0 ∷ 3 ∷ 0 ∷ 0 ∷ 0 ∷ 2 ∷ 0 ∷ 0 ∷ 0 ∷ []

pub token-line : line_of token ≡ ascii "token ring=4 rep=3 addressee=7 token_seq=2 seq=3 aru=2 aru_id=7 fcc=1 backlog=5 rtr=[3,2]\n"
unfolding line_text flatten read_of word_at word_of words_as every read_message read_token token_of token_follows numbers_in numbered requests_of requests_follow header_of header_follows digits_to
token-line = refl

-- the first token of ring 4
abbrev first : List ℕ
first = 30 ∷ 0 ∷ 2 ∷ 0 ∷ 4 ∷ 0 ∷ 0 ∷ 0 ∷ 3 ∷ 0 ∷ 3 ∷ 0 ∷ 1 ∷ 0 ∷ 0 ∷ 0 ∷ 0 ∷ 0 ∷ 0 ∷ 0 ∷ 0 ∷ 0 ∷ 0 ∷ 0 ∷ 0 ∷ 0 ∷ 0 ∷ 0 ∷ 0 ∷ 0 ∷ 0 ∷ 0 ∷ []

pub first-line : line_of first ≡ ascii "token ring=4 rep=3 addressee=3 token_seq=1 seq=0 aru=0 aru_id=nobody fcc=0 backlog=0 rtr=[]\n"
unfolding line_text flatten read_of word_at word_of words_as every read_message read_token token_of token_follows numbers_in numbered requests_of requests_follow header_of header_follows digits_to
first-line = refl

-- too short for a header
pub short-line : line_of (0 ∷ 0 ∷ []) ≡ ascii "no 10\n"
unfolding line_text flatten read_of digits_to
short-line = refl
