-- Kind 1, message. [document 01, Frames; the paper's regular message: sender_id, seq, conf_id, contents]
use Rattle.std.specs.Prelude.{ℕ, Bool, ◌&&◌, List, ◌++◌, length, drop, leb}
use Rattle.words.specs.Word.{word_at, word_bytes}
use Rattle.frames.specs.Number.{is_number, is_id}
use Rattle.frames.specs.Layout.{sender_at, message_number_at, service_at, content_at, message_kind, most_service, most_content, message_size}
use Rattle.frames.specs.Header.{header_of, header_follows, header_bytes}
use Rattle.frames.specs.declared.message.Message.{Message}

-- the paper's conf_id: always zero here
abbrev pub configuration : ℕ
configuration = 0

-- the values in a frame's bytes, the content apart
unfoldable pub message_of : List ℕ → Message
message_of s =
    record {
      header = header_of s;
      sender = word_at 2 s sender_at;
      number = record { 0 = word_at 4 s message_number_at };
      service = word_at 2 s service_at;
    }

-- the content stands from byte 22 to the frame's end
abbrev pub content_of : List ℕ → List ℕ
content_of s = drop content_at s

-- 12, of a message's values
unfoldable pub message_follows : Message → List ℕ → Bool
message_follows m content =
    header_follows m.header
    && is_id m.sender
    && is_number m.number.0
    && leb m.service most_service
    && leb (length content) most_content

-- the bytes before the content, of a frame of `size` bytes in all
unfoldable pub message_fixed : Message → ℕ → List ℕ
message_fixed m size =
    header_bytes size message_kind m.header
    ++ word_bytes 2 m.sender
    ++ word_bytes 4 m.number.0
    ++ word_bytes 4 configuration
    ++ word_bytes 2 m.service

abbrev pub message_bytes : Message → List ℕ → List ℕ
message_bytes m content = message_fixed m (message_size (length content)) ++ content
