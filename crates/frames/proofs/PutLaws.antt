-- A frame's fixed part, stored field by field, is its bytes stored at the front.
use Prim.Native.Nat.{ℕ, ◌-◌, ◌%◌}
use mathlib.Core.Path.{◌≡◌, ap, ◌∙◌}
use mathlib.Core.List.{List}
use lib.Seq.{sets}
use Rattle.words.specs.Word.{word_bytes}
use Rattle.words.proofs.StoreLaws.{stored-none, stored_next}
use Rattle.words.proofs.WordLaws.{bytes_low, stored-word}
use Rattle.frames.specs.Layout.{length_at, length_size, kind_at, ring_at, representative_at, header_size, message_kind, sender_at, message_number_at, configuration_at, service_at, token_kind, token_size, addressee_at, token_number_at, highest_at, aru_at, blocker_at, round_at, backlog_at, count_at}
use Rattle.frames.specs.Header.{header_bytes}
use Rattle.frames.specs.Message.{configuration, message_fixed}
use Rattle.frames.specs.Token.{blocker_id, token_counts, token_fixed}
use Rattle.frames.specs.declared.header.Header.{Header}
use Rattle.frames.specs.declared.message.Message.{Message}
use Rattle.frames.specs.declared.token.Token.{Token}
use Rattle.frames.proofs.Sizes.{header-length, counts-length}

pub header_stored : (size kind : ℕ) (h : Header) (l l₁ l₂ l₃ l₄ : List ℕ)
    → l₁ ≡ sets l length_at (word_bytes 2 ((size - length_size) % 65536))
    → l₂ ≡ sets l₁ kind_at (word_bytes 2 kind)
    → l₃ ≡ sets l₂ ring_at (word_bytes 4 h.ring.0)
    → l₄ ≡ sets l₃ representative_at (word_bytes 2 h.representative)
    → l₄ ≡ sets l 0 (header_bytes size kind h)
unfolding header_bytes
header_stored size kind h l l₁ l₂ l₃ l₄ e₁ e₂ e₃ e₄ =
    let w₁ = stored-word 2 (size - length_size) l₁ (stored-none l 0) (e₁ ∙ ap (sets l length_at) (bytes_low 2 (size - length_size))) in
    let w₂ = stored-word 2 kind l₂ w₁ e₂ in
    let w₃ = stored-word 4 h.ring.0 l₃ w₂ e₃ in
    let w₄ = stored-word 2 h.representative l₄ w₃ e₄ in
    w₄.is

pub message_stored : (m : Message) (size : ℕ) (l l₁ l₂ l₃ l₄ l₅ : List ℕ)
    → l₁ ≡ sets l 0 (header_bytes size message_kind m.header)
    → l₂ ≡ sets l₁ sender_at (word_bytes 2 m.sender)
    → l₃ ≡ sets l₂ message_number_at (word_bytes 4 m.number.0)
    → l₄ ≡ sets l₃ configuration_at (word_bytes 4 configuration)
    → l₅ ≡ sets l₄ service_at (word_bytes 2 m.service)
    → l₅ ≡ sets l 0 (message_fixed m size)
unfolding message_fixed
message_stored m size l l₁ l₂ l₃ l₄ l₅ e₁ e₂ e₃ e₄ e₅ =
    let w₁ = stored_next header_size (header_bytes size message_kind m.header) l₁ (stored-none l 0) (header-length size message_kind m.header) e₁ in
    let w₂ = stored-word 2 m.sender l₂ w₁ e₂ in
    let w₃ = stored-word 4 m.number.0 l₃ w₂ e₃ in
    let w₄ = stored-word 4 configuration l₄ w₃ e₄ in
    let w₅ = stored-word 2 m.service l₅ w₄ e₅ in
    w₅.is

pub counts_stored : (t : Token) (l l₁ l₂ l₃ : List ℕ)
    → l₁ ≡ sets l round_at (word_bytes 2 t.round)
    → l₂ ≡ sets l₁ backlog_at (word_bytes 2 t.backlog)
    → l₃ ≡ sets l₂ count_at (word_bytes 2 t.count)
    → l₃ ≡ sets l round_at (token_counts t)
counts_stored t l l₁ l₂ l₃ e₁ e₂ e₃ =
    let w₁ = stored-word 2 t.round l₁ (stored-none l round_at) e₁ in
    let w₂ = stored-word 2 t.backlog l₂ w₁ e₂ in
    let w₃ = stored-word 2 t.count l₃ w₂ e₃ in
    w₃.is

pub token_stored : (t : Token) (size blocker : ℕ) (l l₁ l₂ l₃ l₄ l₅ l₆ l₇ : List ℕ)
    → size ≡ token_size t.count
    → blocker ≡ blocker_id t.blocker
    → l₁ ≡ sets l 0 (header_bytes size token_kind t.header)
    → l₂ ≡ sets l₁ addressee_at (word_bytes 2 t.addressee)
    → l₃ ≡ sets l₂ token_number_at (word_bytes 4 t.number.0)
    → l₄ ≡ sets l₃ highest_at (word_bytes 4 t.highest.0)
    → l₅ ≡ sets l₄ aru_at (word_bytes 4 t.aru.0)
    → l₆ ≡ sets l₅ blocker_at (word_bytes 2 blocker)
    → l₇ ≡ sets l₆ round_at (token_counts t)
    → l₇ ≡ sets l 0 (token_fixed t)
unfolding token_fixed
token_stored t size blocker l l₁ l₂ l₃ l₄ l₅ l₆ l₇ sized blocked e₁ e₂ e₃ e₄ e₅ e₆ e₇ =
    let w₁ = stored_next header_size (header_bytes size token_kind t.header) l₁ (stored-none l 0) (header-length size token_kind t.header) e₁ in
    let w₂ = stored-word 2 t.addressee l₂ w₁ e₂ in
    let w₃ = stored-word 4 t.number.0 l₃ w₂ e₃ in
    let w₄ = stored-word 4 t.highest.0 l₄ w₃ e₄ in
    let w₅ = stored-word 4 t.aru.0 l₅ w₄ e₅ in
    let w₆ = stored-word 2 blocker l₆ w₅ e₆ in
    let w₇ = stored_next 6 (token_counts t) l₇ w₆ (counts-length t) e₇ in
    rw (sized, blocked) at w₇.is
