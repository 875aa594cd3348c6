-- Sample values of the trials of calls. [document 01, Trials]
use Rattle.std.specs.Prelude.{ℕ, zero, suc, ◌-◌, List, [], ◌∷◌, length, get_or, take, replicate, Option, Result, Ok, Err}
use Rattle.frames.specs.Message.{message_bytes}
use Rattle.frames.specs.Token.{request_numbers, token_bytes, blocker_id}
use Rattle.frames.specs.Read.{read_of}
use Rattle.frames.specs.trials.Trials.{header}
use Rattle.frames.specs.declared.refusal.Refusal.{Refusal}
use Rattle.frames.specs.declared.reader.Frame.{Frame}
use Rattle.frames.specs.declared.reader.Frame.TheVariants.{Message as IsMessage, Token as IsToken}
use Rattle.frames.specs.declared.token.Token.{Token}
use Rattle.record.specs.declared.Record.{Record}
use Rattle.visit.specs.Output.{most_frames, most_deliveries}
use Rattle.visit.specs.Within.{frames_in}
use Rattle.visit.specs.trials.Sample.{token_with}
use Rattle.station.specs.Answer.{outcome_of}
use Rattle.station.specs.Reply.{Reply}
use Rattle.station.specs.Post.{with_post}
use Rattle.station.specs.Arrive.{arrived}

-- ---- what a reply says in numbers

abbrev pub refusal : Reply → ℕ
refusal reply = (outcome_of reply.answer).refusal

abbrev pub outcome : Reply → ℕ
outcome reply = (outcome_of reply.answer).outcome

abbrev pub bytes : ℕ → List ℕ
bytes n = replicate n 65

-- n posts more, of one byte each
unfoldable pub loaded_with : ℕ → Record → Record
loaded_with zero r = r
loaded_with (suc n) r = loaded_with n (with_post r 0 (bytes 1))

-- ---- frames

-- ring number, sender, message number, service, content
abbrev pub message_frame : ℕ → ℕ → ℕ → ℕ → List ℕ → List ℕ
message_frame ring sender n service content =
    message_bytes (record { header = header ring; sender = sender; number = record { 0 = n }; service = service }) content

-- ring number, addressee, token number, highest, aru, blocker, round count, requests
abbrev pub token_frame : ℕ → ℕ → ℕ → ℕ → ℕ → Option ℕ → ℕ → List ℕ → List ℕ
token_frame ring addressee n highest aru blocker round requests = token_bytes (token_with ring addressee n highest aru blocker round requests)

-- ---- a frame arrives, with buffers of just the lengths asked for

abbrev pub arrives : Record → List ℕ → Reply
arrives r frame = arrived r frame most_frames most_deliveries

-- a message of sender 3: number, service, content
abbrev pub heard : Record → ℕ → ℕ → List ℕ → Reply
heard r n service content = arrives r (message_frame 4 3 n service content)

-- a token to 7: number, highest, aru, blocker, round count, requests
abbrev pub visited : Record → ℕ → ℕ → ℕ → Option ℕ → ℕ → List ℕ → Reply
visited r n highest aru blocker round requests = arrives r (token_frame 4 7 n highest aru blocker round requests)

-- ---- what is written

abbrev pub frames_count : Reply → ℕ
frames_count reply = length (frames_in reply.frames)

-- the frame at a place, from 0
abbrev pub frame_at : Reply → ℕ → List ℕ
frame_at reply place = get_or (frames_in reply.frames) place []

-- numbers of the token that was read; none of what is no token
abbrev pub of_token : (Token → List ℕ) → Result Frame Refusal → List ℕ
of_token numbers (Err why) = []
of_token numbers (Ok (IsMessage m)) = []
of_token numbers (Ok (IsToken t)) = numbers t

-- numbers of the token, read from the last frame
abbrev pub token_left : Reply → (Token → List ℕ) → List ℕ
token_left reply numbers = of_token numbers (read_of (frame_at reply (frames_count reply - 1)))

-- its addressee and number
abbrev pub next_left : Reply → List ℕ
next_left reply = token_left reply (λ t. t.addressee ∷ t.number.0 ∷ [])

-- its aru and blocker
abbrev pub aru_left : Reply → List ℕ
aru_left reply = token_left reply (λ t. t.aru.0 ∷ blocker_id t.blocker ∷ [])

abbrev pub requests_left : Reply → List ℕ
requests_left reply = token_left reply (λ t. take t.count (request_numbers t))

-- how many frames, the token's highest and round count, the posts that still wait
abbrev pub counts_left : Reply → List ℕ
counts_left reply = token_left reply (λ t. frames_count reply ∷ t.highest.0 ∷ t.round ∷ reply.rec.posts.count ∷ [])

-- how many messages, the token's backlog, one's own part of it
abbrev pub share_left : Reply → List ℕ
share_left reply = token_left reply (λ t. (frames_count reply - 1) ∷ t.backlog ∷ reply.rec.turn.waited ∷ [])

-- the id in the notice 'deaf', or 0, and the stall count
abbrev pub stall_left : Reply → List ℕ
stall_left reply = (outcome_of reply.answer).deaf ∷ reply.rec.turn.stall ∷ []

-- level, safe mark, delivered mark
abbrev pub marks : Reply → List ℕ
marks reply = reply.rec.log.level.0 ∷ reply.rec.log.safe.0 ∷ reply.rec.log.delivered.0 ∷ []
