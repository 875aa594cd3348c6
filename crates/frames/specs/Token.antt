-- Kind 2, token. [document 01, Frames; the paper's token: token_seq, seq, aru, aru_id, rtr, and fcc of its flow control; the backlog is document 02's, Job 1]
use Rattle.std.specs.Prelude.{ℕ, ◌-◌, Bool, not, ◌&&◌, cond, List, ◌++◌, map, length, take, drop, replicate, leb, eqb, Option, Some, None}
use Rattle.words.specs.Word.{word_at, word_bytes}
use Rattle.words.specs.Run.{words, words_bytes}
use Rattle.words.specs.Scan.{all_within, all_zero, distinct}
use Rattle.frames.specs.Number.{most_number, is_number, is_id}
use Rattle.frames.specs.Layout.{addressee_at, token_number_at, highest_at, aru_at, blocker_at, round_at, backlog_at, count_at, requests_at, token_kind, most_round, most_backlog, most_requests, token_size}
use Rattle.frames.specs.Header.{header_of, header_follows, header_bytes}
use Rattle.frames.specs.declared.number.MessageNumber.{MessageNumber}
use Rattle.frames.specs.declared.token.Token.{Token}

-- ---- the blocker: nobody, written 0, or one member

abbrev pub blocker_of : ℕ → Option ℕ
blocker_of id = cond (eqb id 0) None (Some id)

abbrev pub blocker_id : Option ℕ → ℕ
blocker_id None = 0
blocker_id (Some id) = id

-- nobody exactly when aru equals the highest
abbrev pub blocker_follows : Option ℕ → ℕ → ℕ → Bool
blocker_follows None aru highest = eqb aru highest
blocker_follows (Some id) aru highest = not (eqb aru highest) && is_id id

-- ---- the requests: the first `count` of 16 places, the others zero. A list has any length, so the test asks for the 16 too

-- the numbers in the places, and places with these numbers
unfoldable pub numbers_in : List MessageNumber → List ℕ
numbers_in requests = map (λ n. n.0) requests

unfoldable pub numbered : List ℕ → List MessageNumber
numbered numbers = map (λ n. record { 0 = n }) numbers

unfoldable pub requests_of : ℕ → List ℕ → List ℕ
requests_of n s = words 4 n (drop requests_at s) ++ replicate (most_requests - n) 0

unfoldable pub requests_follow : ℕ → List ℕ → ℕ → Bool
requests_follow n requests highest =
    eqb (length requests) most_requests
    && leb n most_requests
    && all_within 1 highest (take n requests)
    && distinct (take n requests)
    && all_zero (drop n requests)

-- ---- the token

-- the numbers in its places
abbrev pub request_numbers : Token → List ℕ
request_numbers t = numbers_in t.requests

abbrev pub request_count : List ℕ → ℕ
request_count s = word_at 2 s count_at

-- the values in a frame's bytes
unfoldable pub token_of : List ℕ → Token
token_of s =
    record {
      header = header_of s;
      addressee = word_at 2 s addressee_at;
      number = record { 0 = word_at 4 s token_number_at };
      highest = record { 0 = word_at 4 s highest_at };
      aru = record { 0 = word_at 4 s aru_at };
      blocker = blocker_of (word_at 2 s blocker_at);
      round = word_at 2 s round_at;
      backlog = word_at 2 s backlog_at;
      count = request_count s;
      requests = numbered (requests_of (request_count s) s);
    }

-- 12, of a token's values
unfoldable pub token_follows : Token → Bool
token_follows t =
    header_follows t.header
    && is_id t.addressee
    && is_number t.number.0
    && leb t.highest.0 most_number
    && leb t.aru.0 t.highest.0
    && blocker_follows t.blocker t.aru.0 t.highest.0
    && leb t.round most_round
    && leb t.backlog most_backlog
    && requests_follow t.count (request_numbers t) t.highest.0

-- the round count, the backlog and the number of requests
abbrev pub token_counts : Token → List ℕ
token_counts t = word_bytes 2 t.round ++ word_bytes 2 t.backlog ++ word_bytes 2 t.count

-- the bytes before the requests
unfoldable pub token_fixed : Token → List ℕ
token_fixed t =
    header_bytes (token_size t.count) token_kind t.header
    ++ word_bytes 2 t.addressee
    ++ word_bytes 4 t.number.0
    ++ word_bytes 4 t.highest.0
    ++ word_bytes 4 t.aru.0
    ++ word_bytes 2 (blocker_id t.blocker)
    ++ token_counts t

abbrev pub token_bytes : Token → List ℕ
token_bytes t = token_fixed t ++ words_bytes 4 (take t.count (request_numbers t))
