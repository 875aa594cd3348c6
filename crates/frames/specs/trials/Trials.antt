-- Document 01's frames and their borders, as one table. proofs/Trials.antt computes it from the definitions.
use Rattle.std.specs.Prelude.{ℕ, zero, suc, ◌-◌, Bool, true, false, ◌&&◌, List, [], ◌∷◌, ◌++◌, length, set, take, replicate, eqb, Option, Some, None}
use Rattle.frames.specs.Layout.{most_requests}
use Rattle.frames.specs.Message.{message_bytes}
use Rattle.frames.specs.Token.{numbered, token_bytes}
use Rattle.frames.specs.Read.{answer_number, read_of}
use Rattle.frames.specs.Write.{Writing, message_written, token_written}
use Rattle.frames.specs.declared.header.Header.{Header}
use Rattle.frames.specs.declared.message.Message.{Message}
use Rattle.frames.specs.declared.token.Token.{Token}

-- ---- what a row says; a number is that of the question answered 'no', 0 for none

pub data FrameTrial : Type 0 where
  -- reading the frame of these values and writing them answer this number; this many bytes are written
  message : Message → List ℕ → ℕ → ℕ → FrameTrial
  token : Token → ℕ → ℕ → FrameTrial
  -- writing answers this number
  writes : Writing → ℕ → FrameTrial
  -- reading these bytes answers this number
  reads : List ℕ → ℕ → FrameTrial
  -- these bytes are those
  are : List ℕ → List ℕ → FrameTrial

abbrev pub reads_as : List ℕ → ℕ → Bool
reads_as frame number = eqb (answer_number (read_of frame)) number

abbrev pub writes_as : Writing → ℕ → ℕ → Bool
writes_as w number count = eqb w.outcome.number number && eqb w.outcome.count count

abbrev pub same : List ℕ → List ℕ → Bool
same [] [] = true
same [] (y ∷ ys) = false
same (x ∷ xs) [] = false
same (x ∷ xs) (y ∷ ys) = eqb x y && same xs ys

-- a buffer with room for any frame
abbrev pub room : List ℕ
room = replicate 100 255

abbrev pub passes : FrameTrial → Bool
passes (message m content number count) = reads_as (message_bytes m content) number && writes_as (message_written m content room) number count
passes (token t number count) = reads_as (token_bytes t) number && writes_as (token_written t room) number count
passes (writes w number) = writes_as w number 0
passes (reads frame number) = reads_as frame number
passes (are frame bytes) = same frame bytes

abbrev pub all_frames_pass : List FrameTrial → Bool
all_frames_pass [] = true
all_frames_pass (t ∷ ts) = passes t && all_frames_pass ts

-- ---- messages and tokens of members 3 and 7

abbrev pub header : ℕ → Header
header ring = record { ring = record { 0 = ring }; representative = 3 }

-- a message of ring 4: number, service
abbrev pub sample_message : ℕ → ℕ → Message
sample_message n service = record { header = header 4; sender = 7; number = record { 0 = n }; service = service }

-- a token to 3: ring number, token number, highest, aru, blocker, round count, backlog, and a count of requests with its places
abbrev pub token_with : ℕ → ℕ → ℕ → ℕ → Option ℕ → ℕ → ℕ → ℕ → List ℕ → Token
token_with ring n highest aru blocker round backlog count requests =
    record {
      header = header ring;
      addressee = 3;
      number = record { 0 = n };
      highest = record { 0 = highest };
      aru = record { 0 = aru };
      blocker = blocker;
      round = round;
      backlog = backlog;
      count = count;
      requests = numbered (requests ++ replicate (most_requests - length requests) 0);
    }

-- a token of ring 4 and number 1 with backlog 0 and these requests: highest, aru, blocker, round count, requests
abbrev pub sample_token : ℕ → ℕ → Option ℕ → ℕ → List ℕ → Token
sample_token highest aru blocker round requests = token_with 4 1 highest aru blocker round 0 (length requests) requests

abbrev pub from1to : ℕ → List ℕ
from1to zero = []
from1to (suc n) = from1to n ++ (suc n ∷ [])

-- the first token of ring 4 with members 3 and 7, in hexadecimal as document 01 has it
unfoldable pub first_bytes : List ℕ
first_bytes =
    0x1E ∷ 0x00 ∷ 0x02 ∷ 0x00 ∷ 0x04 ∷ 0x00 ∷ 0x00 ∷ 0x00 ∷ 0x03 ∷ 0x00 ∷ 0x03 ∷ 0x00 ∷ 0x01 ∷ 0x00 ∷ 0x00 ∷ 0x00 ∷ replicate 16 0x00

-- ---- the table

unfoldable pub frame_trials : List FrameTrial
frame_trials =
    are (token_bytes (sample_token 0 0 None 0 [])) first_bytes
    -- messages
    ∷ message (sample_message 1 0) [] 0 22  -- no content
    ∷ message (sample_message 1 1) (replicate 64 111) 0 86  -- 64 bytes
    ∷ message (sample_message 1 0) (replicate 65 111) 12 0  -- 65
    ∷ message (sample_message 1 2) [] 12 0  -- service 2
    ∷ message (sample_message 0 0) [] 12 0  -- number 0
    ∷ message (sample_message 2000000000 0) [] 0 22  -- the largest number
    ∷ message (sample_message 2000000001 0) [] 12 0  -- one more
    -- tokens
    ∷ token (token_with 2000000000 1 0 0 None 0 0 0 []) 0 32  -- ring number
    ∷ token (token_with 2000000001 1 0 0 None 0 0 0 []) 12 0
    ∷ token (token_with 4 2000000000 0 0 None 0 0 0 []) 0 32  -- token number
    ∷ token (token_with 4 2000000001 0 0 None 0 0 0 []) 12 0
    ∷ token (sample_token 2000000000 2000000000 None 0 []) 0 32  -- highest
    ∷ token (sample_token 2000000001 2000000001 None 0 []) 12 0
    ∷ token (sample_token 10 5 (Some 7) 0 []) 0 32
    ∷ token (sample_token 10 11 (Some 7) 0 []) 12 0  -- aru above the highest
    ∷ token (sample_token 10 10 (Some 7) 0 []) 12 0  -- a blocker with aru equal to the highest
    ∷ token (sample_token 10 9 None 0 []) 12 0  -- nobody with aru below it
    ∷ token (sample_token 10 5 (Some 0) 0 []) 12 0  -- a blocker with id 0
    ∷ token (sample_token 10 5 (Some 7) 128 []) 0 32  -- round count 128
    ∷ token (sample_token 10 5 (Some 7) 129 []) 12 0  -- 129
    ∷ token (token_with 4 1 10 5 (Some 7) 0 128 0 []) 0 32  -- backlog 128
    ∷ token (token_with 4 1 10 5 (Some 7) 0 129 0 []) 12 0  -- 129
    ∷ token (sample_token 20 0 (Some 7) 0 (from1to 16)) 0 96  -- 16 requests
    ∷ reads (token_bytes (sample_token 20 0 (Some 7) 0 (from1to 17))) 12  -- 17 in a frame
    ∷ writes (token_written (token_with 4 1 20 0 (Some 7) 0 0 17 (from1to 16)) room) 12  -- 17 counted in 16 places
    ∷ writes (token_written (token_with 4 1 20 0 (Some 7) 0 0 1 (6 ∷ 8 ∷ [])) room) 12  -- a place that is not counted and not zero
    ∷ token (sample_token 10 5 (Some 7) 0 (6 ∷ 8 ∷ 6 ∷ [])) 12 0  -- a request twice
    ∷ token (sample_token 10 5 (Some 7) 0 (6 ∷ 10 ∷ [])) 0 40
    ∷ token (sample_token 10 5 (Some 7) 0 (6 ∷ 11 ∷ [])) 12 0  -- a request above the highest
    ∷ token (sample_token 10 5 (Some 7) 0 (0 ∷ [])) 12 0  -- a request 0
    -- the buffer
    ∷ writes (token_written (sample_token 0 0 None 0 []) (replicate 31 0)) 1  -- one byte short
    ∷ writes (token_written (sample_token 0 1 None 0 []) []) 12  -- 12 goes before 1
    -- any bytes
    ∷ reads first_bytes 0
    ∷ reads [] 10
    ∷ reads (0x07 ∷ replicate 8 0x00) 10  -- under 10 bytes, though its length is exact
    ∷ reads (take 31 first_bytes) 10  -- a byte short
    ∷ reads (first_bytes ++ (0x00 ∷ [])) 10  -- a byte too many
    -- one byte of the first token, or of a message with no content, set to another
    ∷ reads (set first_bytes 0 0x1F) 10  -- the length field
    ∷ reads (set first_bytes 2 0x03) 11  -- the kind
    ∷ reads (set first_bytes 4 0x00) 12  -- ring number 0
    ∷ reads (set first_bytes 8 0x00) 12  -- representative 0
    ∷ reads (set first_bytes 10 0x00) 12  -- addressee 0
    ∷ reads (set first_bytes 12 0x00) 12  -- token number 0
    ∷ reads (set (message_bytes (sample_message 1 0) []) 10 0x00) 12  -- sender 0
    ∷ reads (set (message_bytes (sample_message 1 0) []) 19 0x01) 12  -- configuration not zero
    -- headers alone
    ∷ reads (0x08 ∷ 0x00 ∷ 0x00 ∷ replicate 7 0x00) 11  -- kind 0
    ∷ reads (0x08 ∷ 0x00 ∷ 0x03 ∷ replicate 7 0x00) 11  -- kind 3
    ∷ reads (0x08 ∷ 0x00 ∷ 0x01 ∷ replicate 7 0x00) 12  -- a message of 10 bytes
    ∷ []
