-- The writers' definition at each way out of their code.
use Prim.Native.Nat.{ℕ, ◌*◌, ◌<◌, ◌≤◌}
use mathlib.Core.Path.{◌≡◌, refl, sym, ap, ◌∙◌}
use mathlib.Core.Bool.{Bool, true, false}
use mathlib.Core.List.{List}
use borrow.Author.Tests.{le-leb, lt-leb}
use native.Mathlib.Omega.{arith}
use lib.ListN.{length, take}
use lib.Seq.{sets, length-take-le}
use Rattle.words.proofs.StoreLaws.{Stored, stored-none, stored_next, front-stored}
use Rattle.words.specs.Run.{words_bytes}
use Rattle.words.proofs.RunLaws.{length-words-bytes}
use Rattle.frames.specs.Layout.{content_at, message_size, requests_at, most_requests, token_size}
use Rattle.frames.specs.Message.{message_follows, message_fixed, message_bytes}
use Rattle.frames.specs.Token.{request_numbers, token_follows, token_fixed, token_bytes}
use Rattle.frames.specs.Write.{WriteOutcome, write_outcome_of, writing_of, message_written, token_written, frame_put, message_put, token_put}
use Rattle.frames.specs.declared.refusal.Refusal.TheVariants.{NoRoom, Malformed}
use Rattle.std.specs.Prelude.{Result, Ok, Err}
use Rattle.frames.specs.declared.refusal.Refusal.{Refusal}
use Rattle.frames.specs.declared.message.Message.{Message}
use Rattle.frames.specs.declared.token.Token.{Token}
use Rattle.frames.proofs.RefusalLaws.{some_number, number-fixes}
use Rattle.frames.proofs.Facts.{token-facts}
use Rattle.frames.proofs.Sizes.{message-fixed-length, message-length, token-fixed-length, token-length}

module _ (follows : Bool) (frame out : List ℕ) where
  pub write-malformed : follows ≡ false → (write_outcome_of (Err Malformed) ≡ (writing_of follows frame out).outcome) × (out ≡ (writing_of follows frame out).out)
  unfolding writing_of
  write-malformed bad = (rw bad, rw bad)

  pub write-roomless : (n : ℕ)
      → follows ≡ true
      → length frame ≡ n
      → length out < n
      → (write_outcome_of (Err NoRoom) ≡ (writing_of follows frame out).outcome) × (out ≡ (writing_of follows frame out).out)
  unfolding writing_of
  write-roomless n ok size less = let short = lt-leb n (length out) less in (rw (ok, size, short), rw (ok, size, short))

  pub write-counted : (n : ℕ) → follows ≡ true → length frame ≡ n → n ≤ length out → write_outcome_of (Ok n) ≡ (writing_of follows frame out).outcome
  unfolding writing_of
  write-counted n ok size room = rw (ok, size, le-leb n (length out) room)

-- ---- what is put without asking 12

module _ (frame out : List ℕ) where
  pub put-roomless : (n : ℕ) → length frame ≡ n → length out < n → out ≡ frame_put frame out
  unfolding frame_put
  put-roomless n size less = rw (size, lt-leb n (length out) less)

  put-taken : (n : ℕ) (out' : List ℕ) → Stored out 0 frame n out' → n ≤ length out → out' ≡ frame_put frame out
  unfolding frame_put
  put-taken n out' stored room = rw (stored.size, le-leb n (length out) room) (stored.is ∙ front-stored n frame out stored.size room)

  put_written : (follows : Bool) (n : ℕ) → follows ≡ true → length frame ≡ n → n ≤ length out → frame_put frame out ≡ (writing_of follows frame out).out
  unfolding frame_put writing_of
  put_written follows n ok size room = rw (ok, size, le-leb n (length out) room)

module _ (t : Token) (out : List ℕ) where
  pub put-long : most_requests < t.count → out ≡ token_put t out
  unfolding token_put
  put-long long = rw (lt-leb t.count most_requests long)

  pub put-short : t.count ≤ most_requests → frame_put (token_bytes t) out ≡ token_put t out
  unfolding token_put
  put-short short = rw (le-leb t.count most_requests short)

-- where the values follow the layout and there is room, it is what the writer leaves

pub message-put : (m : Message) (content out : List ℕ)
    → message_follows m content ≡ true
    → message_size (length content) ≤ length out
    → message_put m content out ≡ (message_written m content out).out
message-put m content out ok room =
    put_written (message_bytes m content) out (message_follows m content) (message_size (length content)) ok (message-length m content) room

pub token-put : (t : Token) (out : List ℕ) → token_follows t ≡ true → token_size t.count ≤ length out → token_put t out ≡ (token_written t out).out
token-put t out ok room =
    let facts = (token-facts t ok).requests in
    sym (put-short t out facts.few) ∙ put_written (token_bytes t) out (token_follows t) (token_size t.count) ok (token-length t (omega (arith, facts.few, facts.places))) room

-- the outcome fixes the answer
pub outcome-fixes : (a b : Result ℕ Refusal) → write_outcome_of a ≡ write_outcome_of b → a ≡ b
outcome-fixes (Ok m) (Ok n) e = ap Ok (ap (λ (o : WriteOutcome). o.count) e)
outcome-fixes (Ok m) (Err why) e = absurd (some_number why (sym (ap (λ (o : WriteOutcome). o.number) e)))
outcome-fixes (Err why) (Ok n) e = absurd (some_number why (ap (λ (o : WriteOutcome). o.number) e))
outcome-fixes (Err why) (Err other) e = ap Err (number-fixes why other (ap (λ (o : WriteOutcome). o.number) e))

-- the fixed part and then the rest, stored at the front

pub message-taken : (m : Message) (content out l₁ l₂ : List ℕ)
    → message_size (length content) ≤ length out
    → l₁ ≡ sets out 0 (message_fixed m (message_size (length content)))
    → l₂ ≡ sets l₁ content_at content
    → l₂ ≡ message_put m content out
message-taken m content out l₁ l₂ room e₁ e₂ =
    let size = message_size (length content) in
    let w₁ = stored_next content_at (message_fixed m size) l₁ (stored-none out 0) (message-fixed-length m size) e₁ in
    let w₂ = stored_next (length content) content l₂ w₁ refl e₂ in
    put-taken (message_bytes m content) out size l₂ w₂ room

pub token-taken : (t : Token) (numbers out l₁ l₂ : List ℕ)
    → numbers ≡ request_numbers t
    → t.count ≤ most_requests
    → token_size t.count ≤ length out
    → t.count ≤ length (request_numbers t)
    → l₁ ≡ sets out 0 (token_fixed t)
    → l₂ ≡ sets l₁ requests_at (words_bytes 4 (take t.count numbers))
    → l₂ ≡ token_put t out
token-taken t numbers out l₁ l₂ taken short room few e₁ e₂ =
    let requests = take t.count (request_numbers t) in
    let long : length (words_bytes 4 requests) ≡ 4 * t.count = rw (length-words-bytes, length-take-le t.count (request_numbers t) few) in
    let w₁ = stored_next requests_at (token_fixed t) l₁ (stored-none out 0) (token-fixed-length t) e₁ in
    let w₂ = stored_next (4 * t.count) (words_bytes 4 requests) l₂ w₁ long (rw taken at e₂) in
    put-taken (token_bytes t) out (token_size t.count) l₂ w₂ room ∙ put-short t out short
