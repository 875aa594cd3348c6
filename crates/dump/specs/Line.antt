-- The line of one frame, in the paper's names where it has one: message ring=4 rep=3 sender_id=7 .., token ring=4 .., or no 12.
use Rattle.std.specs.Prelude.{ℕ, take, Option, Some, None, Result, Ok, Err}
use mathlib.Core.List.{List, [], ◌∷◌, ◌++◌, flatten}
use Rattle.frames.specs.Message.{configuration, content_of}
use Rattle.frames.specs.Token.{request_numbers}
use Rattle.frames.specs.Read.{read_of}
use Rattle.frames.specs.Refusal.{frame_refusal_number}
use Rattle.frames.specs.declared.header.Header.{Header}
use Rattle.frames.specs.declared.message.Message.{Message}
use Rattle.frames.specs.declared.token.Token.{Token}
use Rattle.frames.specs.declared.refusal.Refusal.{Refusal}
use Rattle.frames.specs.declared.reader.Frame.{Frame}
use Rattle.frames.specs.declared.reader.Frame.TheVariants.{Message as IsMessage, Token as IsToken}
use Rattle.text.specs.Text.{Text, ascii, piece, decimal, each, escaped}

abbrev pub field : List ℕ → ℕ → Text
field name value = piece name ++ decimal value

abbrev pub header_text : List ℕ → Header → Text
header_text kind h = piece kind ++ field (ascii " ring=") h.ring.0 ++ field (ascii " rep=") h.representative

-- ---- a message; the configuration of one that reads is 0

abbrev pub message_fields : Message → Text
message_fields m =
    header_text (ascii "message") m.header
    ++ field (ascii " sender_id=") m.sender
    ++ field (ascii " seq=") m.number.0
    ++ field (ascii " conf_id=") configuration
    ++ field (ascii " service=") m.service

abbrev pub message_line : Message → List ℕ → Text
message_line m content = message_fields m ++ piece (ascii " contents=\"") ++ escaped content ++ piece (ascii "\"\n")

-- ---- a token

abbrev pub blocker_text : Option ℕ → Text
blocker_text None = piece (ascii " aru_id=nobody")
blocker_text (Some id) = field (ascii " aru_id=") id

abbrev pub following : ℕ → Text
following n = field (ascii ",") n

-- a comma between each two
abbrev pub comma_separated : List ℕ → Text
comma_separated [] = []
comma_separated (x ∷ xs) = decimal x ++ each following xs

abbrev pub requests_text : List ℕ → ℕ → Text
requests_text requests count = piece (ascii " rtr=[") ++ comma_separated (take count requests) ++ piece (ascii "]")

abbrev pub token_fields : Token → Text
token_fields t =
    header_text (ascii "token") t.header
    ++ field (ascii " addressee=") t.addressee
    ++ field (ascii " token_seq=") t.number.0
    ++ field (ascii " seq=") t.highest.0
    ++ field (ascii " aru=") t.aru.0

abbrev pub token_line : Token → Text
token_line t =
    token_fields t
    ++ blocker_text t.blocker
    ++ field (ascii " fcc=") t.round
    ++ field (ascii " backlog=") t.backlog
    ++ requests_text (request_numbers t) t.count
    ++ piece (ascii "\n")

-- ---- a line

-- a frame that does not read: the number of the question that refuses it
abbrev pub unread_line : ℕ → Text
unread_line number = field (ascii "no ") number ++ piece (ascii "\n")

abbrev pub answer_line : Result Frame Refusal → List ℕ → Text
answer_line (Err why) content = unread_line (frame_refusal_number why)
answer_line (Ok (IsMessage m)) content = message_line m content
answer_line (Ok (IsToken t)) content = token_line t

unfoldable pub line_text : List ℕ → Text
line_text frame = answer_line (read_of frame) (content_of frame)

abbrev pub line_of : List ℕ → List ℕ
line_of frame = flatten (line_text frame)

-- no line is longer
abbrev pub longest_line : ℕ
longest_line = 512
