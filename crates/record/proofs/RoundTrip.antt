-- Bytes are restored from their record, and a record from its bytes.
use Prim.Native.Nat.{ℕ, ◌+◌, ◌*◌, ◌^◌, ◌<◌, ◌≤◌}
use mathlib.Core.Path.{◌≡◌, sym, ap, ◌∙◌}
use mathlib.Core.List.{List, [], ◌∷◌, ◌++◌, append_assoc, append-nil}
use native.Mathlib.Omega.{arith}
use lib.ListN.{length, take, drop, length-append, length-drop, take-append-drop, drop_of_length-le}
use lib.Seq.{drop-drop, take_at, drop_at}
use Rattle.words.specs.Word.{Bytes, word_bytes, word_at}
use Rattle.words.specs.Run.{words, words_bytes}
use Rattle.words.proofs.WordLaws.{bytes_drop, length-word, word_back, word_split}
use Rattle.words.proofs.RunLaws.{words-there, words_back}
use Rattle.frames.specs.Layout.{longest_token}
use Rattle.record.specs.Size.{most_members, most_held, most_posts, held_contents, post_contents}
use Rattle.record.specs.Layout.{own_at, panel_at, log_at, turn_at, posts_at, record_size, log_ring_at, member_count_at, members_at, level_at, safe_at, delivered_at, held_messages_at, log_size, senders_at, held_services_at, held_lengths_at, held_contents_at, held_size, turn_aru_at, earlier_at, turn_number_at, broadcast_at, stall_at, waited_at, token_size_at, token_at, turn_size, post_count_at, post_services_at, post_lengths_at, post_contents_at, posts_size}
use Rattle.record.specs.Bytes.{bytes_at, held_bytes, held_of, log_bytes, log_of, turn_bytes, turn_of, posts_bytes, posts_of, record_bytes, record_of}
use Rattle.record.specs.Parts.{with_posts}
use Rattle.record.specs.RoundTrip.{BytesRestored, RecordRestored}
use Rattle.record.specs.declared.log.Held.{Held}
use Rattle.record.specs.declared.log.Log.{Log}
use Rattle.record.specs.declared.turn.Turn.{Turn}
use Rattle.record.specs.declared.posts.Posts.{Posts}
use Rattle.record.specs.declared.Record.{Record}
use Rattle.record.proofs.Sizes.{words_long, log-length, turn-length, record-length}
use Rattle.record.proofs.Fits.{Words, HeldFits, LogFits, TurnFits, PostsFits, RecordFits, whole-fits, record-arrays}

-- ---- bytes, record, bytes: each field stores what stood at its place, and is followed by what stood after it

bytes-split : (n : ℕ) (s : List ℕ) (at : ℕ) → bytes_at n s at ++ drop (at + n) s ≡ drop at s
bytes-split n s at = rw (← drop-drop n at s) (take-append-drop n (drop at s))

words-split : (w n : ℕ) (s : List ℕ) (at : ℕ) → Bytes s → at + w * n ≤ length s → words_bytes w (words w n (drop at s)) ++ drop (at + w * n) s ≡ drop at s
words-split w n s at b h = rw (drop-drop (w * n) at s) at (words-there w n (drop at s) (bytes_drop at s b) (rw length-drop (omega arith)))

-- what holds of every list of n bytes or more holds at each place
placed : (bytes : List ℕ → List ℕ) (n : ℕ) → ((s : List ℕ) → Bytes s → n ≤ length s → bytes s ++ drop n s ≡ s)
    → (s : List ℕ) (at : ℕ) → Bytes s → at + n ≤ length s → bytes (drop at s) ++ drop (at + n) s ≡ drop at s
placed bytes n there s at b h = rw (drop-drop n at s) at (there (drop at s) (bytes_drop at s b) (rw length-drop (omega arith)))

held-there : (s : List ℕ) → Bytes s → held_size ≤ length s → held_bytes (held_of s) ++ drop held_size s ≡ s
unfolding held_bytes held_of
held-there s b h =
    let w₁ = words-split 2 most_held s senders_at b (omega arith) in
    let w₂ = words-split 2 most_held s held_services_at b (omega arith) in
    let w₃ = bytes-split most_held s held_lengths_at in
    let w₄ = bytes-split held_contents s held_contents_at in
    simp append_assoc (rw (w₄, w₃, w₂) w₁)

log-there : (s : List ℕ) → Bytes s → log_size ≤ length s → log_bytes (log_of s) ++ drop log_size s ≡ s
unfolding log_bytes log_of
log-there s b h =
    let w₁ = word_split 4 s log_ring_at b (omega arith) in
    let w₂ = word_split 1 s member_count_at b (omega arith) in
    let w₃ = words-split 2 most_members s members_at b (omega arith) in
    let w₄ = word_split 4 s level_at b (omega arith) in
    let w₅ = word_split 4 s safe_at b (omega arith) in
    let w₆ = word_split 4 s delivered_at b (omega arith) in
    let w₇ = placed (λ t. held_bytes (held_of t)) held_size held-there s held_messages_at b (omega arith) in
    simp append_assoc (rw (w₇, w₆, w₅, w₄, w₃, w₂) w₁)

turn-there : (s : List ℕ) → Bytes s → turn_size ≤ length s → turn_bytes (turn_of s) ++ drop turn_size s ≡ s
unfolding turn_bytes turn_of
turn-there s b h =
    let w₁ = word_split 4 s turn_aru_at b (omega arith) in
    let w₂ = word_split 4 s earlier_at b (omega arith) in
    let w₃ = word_split 4 s turn_number_at b (omega arith) in
    let w₄ = word_split 1 s broadcast_at b (omega arith) in
    let w₅ = word_split 1 s stall_at b (omega arith) in
    let w₆ = word_split 1 s waited_at b (omega arith) in
    let w₇ = word_split 1 s token_size_at b (omega arith) in
    let w₈ = bytes-split longest_token s token_at in
    simp append_assoc (rw (w₈, w₇, w₆, w₅, w₄, w₃, w₂) w₁)

posts-there : (s : List ℕ) → Bytes s → posts_size ≤ length s → posts_bytes (posts_of s) ++ drop posts_size s ≡ s
unfolding posts_bytes posts_of
posts-there s b h =
    let w₁ = word_split 1 s post_count_at b (omega arith) in
    let w₂ = words-split 2 most_posts s post_services_at b (omega arith) in
    let w₃ = bytes-split most_posts s post_lengths_at in
    let w₄ = bytes-split post_contents s post_contents_at in
    simp append_assoc (rw (w₄, w₃, w₂) w₁)

-- all but the posts
abbrev before_posts : Record → List ℕ
before_posts r = word_bytes 2 r.own ++ word_bytes 1 r.panel ++ log_bytes r.log ++ turn_bytes r.turn

before-there : (s : List ℕ) → Bytes s → record_size ≤ length s → before_posts (record_of s) ++ drop posts_at s ≡ s
unfolding record_of
before-there s b h =
    let w₁ = word_split 2 s own_at b (omega arith) in
    let w₂ = word_split 1 s panel_at b (omega arith) in
    let w₃ = placed (λ t. log_bytes (log_of t)) log_size log-there s log_at b (omega arith) in
    let w₄ = placed (λ t. turn_bytes (turn_of t)) turn_size turn-there s turn_at b (omega arith) in
    simp append_assoc (rw (w₄, w₃, w₂) w₁)

record-there : (s : List ℕ) → Bytes s → record_size ≤ length s → record_bytes (record_of s) ++ drop record_size s ≡ s
unfolding record_bytes record_of
record-there s b h =
    let w₄ = placed (λ t. posts_bytes (posts_of t)) posts_size posts-there s posts_at b (omega arith) in
    append_assoc (before_posts (record_of s)) (posts_bytes (record_of s).posts) (drop record_size s) ∙ rw w₄ (before-there s b h)

-- with other posts: their bytes in the place of the old ones
pub with-posts : (s : List ℕ) (p : Posts) → Bytes s → length s ≡ record_size → take posts_at s ++ posts_bytes p ≡ record_bytes (with_posts (record_of s) p)
unfolding record_bytes
with-posts s p b size =
    let there = before-there s b (omega arith) in
    let long : length (before_posts (record_of s) ++ drop posts_at s) ≡ record_size = rw there size in
    let front : length (before_posts (record_of s)) ≡ posts_at = omega (arith, rw (length-append, length-drop) at long, size) in
    ap (λ xs. take posts_at xs ++ posts_bytes p) (sym there) ∙ rw (take_at (before_posts (record_of s)) (drop posts_at s) posts_at front)

pub bytes-restored : BytesRestored
bytes-restored s b size =
    let none : drop record_size s ≡ [] = drop_of_length-le s {i = record_size} (omega arith) in
    rw (none, append-nil) at (record-there s b (omega arith))

-- ---- record, bytes, record: what is left of the bytes at each field's place begins with the field

abbrev joined : List (List ℕ) → List ℕ → List ℕ
joined [] rest = rest
joined (p ∷ ps) rest = p ++ joined ps rest

-- from `at` on, s is these parts and then the rest
record Left (s : List ℕ) (at : ℕ) (parts : List (List ℕ)) (rest : List ℕ) : Type 0 where
  is : drop at s ≡ joined parts rest

-- the first part is the field that stands at `at`, and the other parts are left after it
module _ {s : List ℕ} {at : ℕ} {rest : List ℕ} where
  left-next : {p : List ℕ} {ps : List (List ℕ)} (n : ℕ) → Left s at (p ∷ ps) rest → length p ≡ n → Left s (at + n) ps rest
  left-next {p} {ps} n left size = record { is = rw (← drop-drop n at s, left.is) (drop_at p (joined ps rest) n size) }

  word_first : {ps : List (List ℕ)} (w x : ℕ) → Left s at (word_bytes w x ∷ ps) rest → x < 256 ^ w → (word_at w s at ≡ x) × Left s (at + w) ps rest
  unfolding word_at
  word_first {ps} w x left fits =
      let size = length-word w x in
      (rw (left.is, take_at (word_bytes w x) (joined ps rest) w size) (word_back w x fits), left-next w left size)

  words-first : {ps : List (List ℕ)} (w n : ℕ) (xs : List ℕ)
      → Left s at (words_bytes w xs ∷ ps) rest
      → length xs ≡ n
      → Words w xs
      → (words w n (drop at s) ≡ xs) × Left s (at + w * n) ps rest
  words-first {ps} w n xs left size fits = (rw (left.is, ← size) (words_back w xs (joined ps rest) fits), left-next (w * n) left (words_long w n xs size))

  bytes-first : {xs : List ℕ} {ps : List (List ℕ)} (n : ℕ) → Left s at (xs ∷ ps) rest → length xs ≡ n → (bytes_at n s at ≡ xs) × Left s (at + n) ps rest
  bytes-first {xs} {ps} n left size = (rw left.is (take_at xs (joined ps rest) n size), left-next n left size)

held_back : (h : Held) (s rest : List ℕ) → HeldFits h → s ≡ held_bytes h ++ rest → held_of s ≡ h
unfolding held_bytes held_of
held_back h s rest fits e =
    let a = fits.arrays in
    let all : Left s senders_at (words_bytes 2 h.senders ∷ words_bytes 2 h.services ∷ h.lengths ∷ h.contents ∷ []) rest = record { is = e ∙ simp append_assoc } in
    let f₁ = words-first 2 most_held h.senders all a.senders fits.senders in
    let f₂ = words-first 2 most_held h.services f₁.1 a.services fits.services in
    let f₃ = bytes-first most_held f₂.1 a.lengths in
    let f₄ = bytes-first held_contents f₃.1 a.contents in
    rw (f₁.0, f₂.0, f₃.0, f₄.0)

log_back : (l : Log) (s rest : List ℕ) → LogFits l → s ≡ log_bytes l ++ rest → log_of s ≡ l
unfolding log_bytes log_of
log_back l s rest fits e =
    let marks = word_bytes 4 l.level.0 ∷ word_bytes 4 l.safe.0 ∷ word_bytes 4 l.delivered.0 ∷ held_bytes l.held ∷ [] in
    let all : Left s log_ring_at (word_bytes 4 l.ring.0 ∷ word_bytes 1 l.count ∷ words_bytes 2 l.members ∷ marks) rest = record { is = e ∙ simp append_assoc } in
    let f₁ = word_first 4 l.ring.0 all fits.ring in
    let f₂ = word_first 1 l.count f₁.1 fits.count in
    let f₃ = words-first 2 most_members l.members f₂.1 fits.places fits.members in
    let f₄ = word_first 4 l.level.0 f₃.1 fits.level in
    let f₅ = word_first 4 l.safe.0 f₄.1 fits.safe in
    let f₆ = word_first 4 l.delivered.0 f₅.1 fits.delivered in
    let f₇ = held_back l.held (drop held_messages_at s) rest fits.held f₆.1.is in
    rw (f₁.0, f₂.0, f₃.0, f₄.0, f₅.0, f₆.0, f₇)

turn-back : (t : Turn) (s rest : List ℕ) → TurnFits t → s ≡ turn_bytes t ++ rest → turn_of s ≡ t
unfolding turn_bytes turn_of
turn-back t s rest fits e =
    let after = word_bytes 1 t.broadcast ∷ word_bytes 1 t.stall ∷ word_bytes 1 t.waited ∷ word_bytes 1 t.size ∷ t.token ∷ [] in
    let all : Left s turn_aru_at (word_bytes 4 t.aru.0 ∷ word_bytes 4 t.earlier.0 ∷ word_bytes 4 t.number.0 ∷ after) rest = record { is = e ∙ simp append_assoc } in
    let f₁ = word_first 4 t.aru.0 all fits.aru in
    let f₂ = word_first 4 t.earlier.0 f₁.1 fits.earlier in
    let f₃ = word_first 4 t.number.0 f₂.1 fits.number in
    let f₄ = word_first 1 t.broadcast f₃.1 fits.broadcast in
    let f₅ = word_first 1 t.stall f₄.1 fits.stall in
    let f₆ = word_first 1 t.waited f₅.1 fits.waited in
    let f₇ = word_first 1 t.size f₆.1 fits.size in
    let f₈ = bytes-first longest_token f₇.1 fits.token in
    rw (f₁.0, f₂.0, f₃.0, f₄.0, f₅.0, f₆.0, f₇.0, f₈.0)

posts-back : (p : Posts) (s rest : List ℕ) → PostsFits p → s ≡ posts_bytes p ++ rest → posts_of s ≡ p
unfolding posts_bytes posts_of
posts-back p s rest fits e =
    let a = fits.arrays in
    let all : Left s post_count_at (word_bytes 1 p.count ∷ words_bytes 2 p.services ∷ p.lengths ∷ p.contents ∷ []) rest = record { is = e ∙ simp append_assoc } in
    let f₁ = word_first 1 p.count all fits.count in
    let f₂ = words-first 2 most_posts p.services f₁.1 a.services fits.services in
    let f₃ = bytes-first most_posts f₂.1 a.lengths in
    let f₄ = bytes-first post_contents f₃.1 a.contents in
    rw (f₁.0, f₂.0, f₃.0, f₄.0)

-- a record whose fields fit is what its bytes decode to, whatever stands after them
pub record-back : (r : Record) (s rest : List ℕ) → RecordFits r → s ≡ record_bytes r ++ rest → record_of s ≡ r
unfolding record_bytes record_of
record-back r s rest fits e =
    let a = record-arrays r fits in
    let all : Left s own_at (word_bytes 2 r.own ∷ word_bytes 1 r.panel ∷ log_bytes r.log ∷ turn_bytes r.turn ∷ posts_bytes r.posts ∷ []) rest = record { is = e ∙ simp append_assoc } in
    let f₁ = word_first 2 r.own all fits.own in
    let f₂ = word_first 1 r.panel f₁.1 fits.panel in
    let l₃ = left-next log_size f₂.1 (log-length r.log a.log) in
    let l₄ = left-next turn_size l₃ (turn-length r.turn a.token) in
    let f₃ = log_back r.log (drop log_at s) _ fits.log f₂.1.is in
    let f₄ = turn-back r.turn (drop turn_at s) _ fits.turn l₃.is in
    let f₅ = posts-back r.posts (drop posts_at s) rest fits.posts l₄.is in
    rw (f₁.0, f₂.0, f₃, f₄, f₅)

pub record-restored : RecordRestored
record-restored r e =
    let fits = whole-fits r e in
    (record-back r (record_bytes r) [] fits (sym (append-nil (record_bytes r))), record-length r (record-arrays r fits))
