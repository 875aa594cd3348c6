-- No line is longer than the longest.
use Rattle.std.specs.Prelude.{Option, Some, None, Result}
use Prim.Native.Nat.{ℕ, zero, suc, ◌+◌, ◌*◌, ◌/◌, ◌%◌, ◌≤◌}
use mathlib.Core.Path.{◌≡◌, refl}
use mathlib.Core.Bool.{Bool, true, false, cond, and-false}
use mathlib.Core.List.{List, [], ◌∷◌, ◌++◌, flatten}
use native.Mathlib.Nat.{add-zero, zero-add, add_assoc, mul-suc}
use native.Mathlib.Omega.{arith}
use lib.Dec.{ltb, eqb}
use lib.ListN.{length, take, length-append, length-take}
use Rattle.words.specs.Word.{word_at}
use Rattle.frames.specs.Layout.{kind_at, message_kind, most_content, token_kind, most_requests}
use Rattle.frames.specs.Message.{message_of, content_of, message_follows}
use Rattle.frames.specs.Token.{request_numbers, token_of, token_follows}
use Rattle.frames.specs.Refusal.{frame_refusal_number}
use Rattle.frames.specs.Read.{length_exact, message_reads, token_reads, read_message, read_token, by_kind, read_of, a_message, a_token, unread_as}
use Rattle.frames.proofs.Facts.{part, message-facts, token-facts}
use Rattle.frames.specs.declared.message.Message.{Message}
use Rattle.frames.specs.declared.refusal.Refusal.TheVariants.{WrongLength, OtherKind, Malformed}
use Rattle.frames.specs.declared.token.Token.{Token}
use Rattle.frames.specs.declared.refusal.Refusal.{Refusal}
use Rattle.frames.specs.declared.reader.Frame.{Frame}
use Rattle.text.specs.Text.{Text, digits_to, decimal, is_plain, escaped_byte, each}
use Rattle.dump.specs.Line.{longest_line, message_line, blocker_text, following, comma_separated, token_line, unread_line, answer_line, line_text, line_of}

-- ---- texts

-- how many bytes a text has
unfoldable size : Text → ℕ
size text = length (flatten text)

size-append : (a b : Text) → size (a ++ b) ≡ size a + size b
unfolding size flatten
size-append [] b = rw zero-add
size-append (bytes ∷ a) b = rw (length-append, length-append, size-append a b, add_assoc)

size_none : size [] ≡ 0
unfolding size flatten
size_none = refl

size-piece : (bytes : List ℕ) → size (bytes ∷ []) ≡ length bytes
unfolding size flatten
size-piece bytes = rw (length-append, add-zero)

one_more : (b : Bool) (most x y : ℕ) (xs : List ℕ) → length xs ≤ most → length (cond b (x ∷ []) (xs ++ (y ∷ []))) ≤ suc most
one_more true most x y xs h = omega arith
one_more false most x y xs h = simp length-append (omega arith)

length_digits : (most n : ℕ) → length (digits_to most n) ≤ most
unfolding digits_to
length_digits zero n = omega arith
length_digits (suc most) n = one_more (ltb n 10) most (48 + n) (48 + n % 10) (digits_to most (n / 10)) (length_digits most (n / 10))

either : (b : Bool) (x y₁ y₂ y₃ y₄ : ℕ) → length (cond b (x ∷ []) (y₁ ∷ y₂ ∷ y₃ ∷ y₄ ∷ [])) ≤ 4
either true x y₁ y₂ y₃ y₄ = omega arith
either false x y₁ y₂ y₃ y₄ = omega arith

size-escaped-byte : (b : ℕ) → size (escaped_byte b) ≤ 4
size-escaped-byte b = rw size-piece (either (is_plain b) _ _ _ _ _)

size-decimal : (n : ℕ) → size (decimal n) ≤ 10
size-decimal n = rw size-piece (length_digits 10 n)

size-following : (n : ℕ) → size (following n) ≤ 11
size-following n = rw (size-append, size-piece) (omega (arith, size-decimal n))

size-each : (f : ℕ → Text) (most : ℕ) → ((x : ℕ) → size (f x) ≤ most) → (xs : List ℕ) → size (each f xs) ≤ most * length xs
size-each f most h [] = rw size_none (omega arith)
size-each f most h (x ∷ xs) = rw (size-append, mul-suc) (omega (arith, h x, size-each f most h xs))

size-listed : (xs : List ℕ) → size (comma_separated xs) ≤ 11 * length xs
size-listed [] = rw size_none (omega arith)
size-listed (x ∷ xs) = rw size-append (omega (arith, size-decimal x, size-each following 11 size-following xs))

size-blocker : (b : Option ℕ) → size (blocker_text b) ≤ 18
size-blocker None = rw size-piece (omega arith)
size-blocker (Some id) = rw (size-append, size-piece) (omega (arith, size-decimal id))

-- ---- lines

size-message : (m : Message) (content : List ℕ) → length content ≤ most_content → size (message_line m content) ≤ longest_line
size-message m content h =
    simp (size-append, size-piece)
    (omega
    (arith, length_digits 10 m.header.ring.0, length_digits 10 m.header.representative, length_digits 10 m.sender, length_digits 10 m.number.0, length_digits 10 0, length_digits 10 m.service, size-each escaped_byte 4 size-escaped-byte content))

size-token : (t : Token) → t.count ≤ most_requests → size (token_line t) ≤ longest_line
size-token t h =
    simp (size-append, size-piece)
    (omega
    (arith, length_digits 10 t.header.ring.0, length_digits 10 t.header.representative, length_digits 10 t.addressee, length_digits 10 t.number.0, length_digits 10 t.highest.0, length_digits 10 t.aru.0, size-blocker t.blocker, length_digits 10 t.round, length_digits 10 t.backlog, size-listed (take t.count (request_numbers t)), length-take t.count (request_numbers t)))

size-unread : (number : ℕ) → size (unread_line number) ≤ longest_line
size-unread number = simp (size-append, size-piece) (omega (arith, length_digits 10 number))

-- ---- every way to read

abbrev Short : List ℕ → Result Frame Refusal → Type 0
Short content r = size (answer_line r content) ≤ longest_line

branch : (b : Bool) (content : List ℕ) (x y : Result Frame Refusal) → (b ≡ true → Short content x) → Short content y → Short content (cond b x y)
branch true content x y f h = f refl
branch false content x y f h = h

short-message : (s : List ℕ) → Short (content_of s) (read_message s)
unfolding read_message
short-message s =
    let m = message_of s in
    let content = content_of s in
    branch (message_reads s) content (a_message m) (unread_as Malformed)
    (λ (e : message_reads s ≡ true). size-message m content (message-facts m content (part e (λ (f : message_follows m content ≡ false). simp (f, and-false)))).short)
    (size-unread (frame_refusal_number Malformed))

short-token : (s : List ℕ) → Short (content_of s) (read_token s)
unfolding read_token
short-token s =
    let t = token_of s in
    branch (token_reads s) (content_of s) (a_token t) (unread_as Malformed)
    (λ (e : token_reads s ≡ true). size-token t (token-facts t (part e (λ (f : token_follows t ≡ false). simp (f, and-false)))).requests.few)
    (size-unread (frame_refusal_number Malformed))

short-kind : (s : List ℕ) → Short (content_of s) (by_kind (word_at 2 s kind_at) (read_message s) (read_token s) (unread_as OtherKind))
short-kind s =
    let kind = word_at 2 s kind_at in
    branch (eqb kind message_kind) (content_of s) (read_message s) (cond (eqb kind token_kind) (read_token s) (unread_as OtherKind))
    (λ e. short-message s)
    (branch (eqb kind token_kind) (content_of s) (read_token s) (unread_as OtherKind) (λ e. short-token s) (size-unread (frame_refusal_number OtherKind)))

pub line-short : (s : List ℕ) → length (line_of s) ≤ longest_line
unfolding size line_text read_of
line-short s = branch (length_exact s) (content_of s) (by_kind (word_at 2 s kind_at) (read_message s) (read_token s) (unread_as OtherKind)) (unread_as WrongLength) (λ e. short-kind s) (size-unread (frame_refusal_number WrongLength))
