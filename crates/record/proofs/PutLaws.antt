-- A part of the record, stored field by field from `at` on, is its bytes stored at `at`.
use Prim.Native.Nat.{ℕ, ◌+◌, ◌*◌, ◌≤◌}
use mathlib.Core.Path.{◌≡◌, refl, sym, ap, ◌∙◌}
use mathlib.Core.List.{List, ◌++◌, append_assoc}
use native.Mathlib.Omega.{arith}
use lib.ListN.{length, take, drop, length-drop, length-append}
use lib.Seq.{sets, length-sets, length-take-le}
use Rattle.words.specs.Word.{word_bytes}
use Rattle.words.specs.Run.{words_bytes}
use Rattle.words.proofs.StoreLaws.{Stored, stored-none, stored_next, front-stored}
use Rattle.words.proofs.WordLaws.{stored-word}
use Rattle.frames.specs.Layout.{longest_token}
use Rattle.record.specs.Size.{most_members, most_held, most_posts, held_contents, post_contents}
use Rattle.record.specs.Layout.{own_at, panel_at, log_at, turn_at, posts_at, record_size, log_ring_at, member_count_at, members_at, level_at, safe_at, delivered_at, held_messages_at, log_size, senders_at, held_services_at, held_lengths_at, held_contents_at, turn_aru_at, earlier_at, turn_number_at, broadcast_at, stall_at, waited_at, token_size_at, token_at, turn_size, post_count_at, post_services_at, post_lengths_at, post_contents_at, posts_size}
use Rattle.record.specs.Bytes.{bytes_at, held_bytes, log_bytes, turn_bytes, posts_bytes, record_bytes}
use Rattle.record.specs.inner.Head.{log_on, posts_on, record_showing, contents_in, waiting_in}
use Rattle.record.specs.declared.head.LogHead.{LogHead}
use Rattle.record.specs.declared.head.PostsHead.{PostsHead}
use Rattle.record.specs.declared.head.Head.{Head}
use Rattle.record.specs.declared.turn.Turn.{Turn}
use Rattle.record.specs.declared.Record.{Record}
use Rattle.record.proofs.Arrays.{HeadArrays, RecordArrays}
use Rattle.record.proofs.ListLaws.{part-before, part-after, part-written, stands}
use Rattle.record.proofs.Sizes.{words_long, log-length, turn-length, posts-length, record-length}

-- a run of k words stored right after what was stored before
stored-words : {l : List ℕ} {at : ℕ} {p : List ℕ} {n : ℕ} {l₁ : List ℕ} (w k : ℕ) (xs l₂ : List ℕ)
    → Stored l at p n l₁
    → length xs ≡ k
    → l₂ ≡ sets l₁ (at + n) (words_bytes w xs)
    → Stored l at (p ++ words_bytes w xs) (n + w * k) l₂
stored-words w k xs l₂ first long e = stored_next (w * k) (words_bytes w xs) l₂ first (words_long w k xs long) e

-- the k bytes that stand after what was stored: left alone, they are as good as stored
left_alone : {l : List ℕ} {at : ℕ} {p : List ℕ} {n : ℕ} {l₁ : List ℕ} (k : ℕ)
    → Stored l at p n l₁
    → at + n + k ≤ length l
    → Stored l at (p ++ bytes_at k l (at + n)) (n + k) l₁
left_alone {l} {at} {p} {n} {l₁} k first room =
    let q = at + n in
    let size : length (bytes_at k l q) ≡ k = length-take-le k (drop q l) (rw length-drop (omega arith)) in
    let same : drop q l₁ ≡ drop q l = rw first.is (part-after q at p l (omega (arith, first.size))) in
    let long : length l₁ ≡ length l = rw first.is (length-sets l at p) in
    stored_next k (bytes_at k l q) l₁ first size (sym (rw (same) at (stands k l₁ q (omega (arith, long)))))

pub places-stored : (x : LogHead) (at : ℕ) (l l₁ l₂ l₃ : List ℕ)
    → HeadArrays x
    → l₁ ≡ sets l (at + senders_at) (words_bytes 2 x.senders)
    → l₂ ≡ sets l₁ (at + held_services_at) (words_bytes 2 x.services)
    → l₃ ≡ sets l₂ (at + held_lengths_at) x.lengths
    → l₃ ≡ sets l at (words_bytes 2 x.senders ++ words_bytes 2 x.services ++ x.lengths)
places-stored x at l l₁ l₂ l₃ a e₁ e₂ e₃ =
    let w₁ = stored-words 2 most_held x.senders l₁ (stored-none l at) a.senders e₁ in
    let w₂ = stored-words 2 most_held x.services l₂ w₁ a.services e₂ in
    let w₃ = stored_next most_held x.lengths l₃ w₂ a.lengths e₃ in
    w₃.is

pub log-stored : (x : LogHead) (at : ℕ) (l l₁ l₂ l₃ l₄ l₅ l₆ l₇ : List ℕ)
    → HeadArrays x
    → at + log_size ≤ length l
    → l₁ ≡ sets l (at + log_ring_at) (word_bytes 4 x.ring.0)
    → l₂ ≡ sets l₁ (at + member_count_at) (word_bytes 1 x.count)
    → l₃ ≡ sets l₂ (at + members_at) (words_bytes 2 x.members)
    → l₄ ≡ sets l₃ (at + level_at) (word_bytes 4 x.level.0)
    → l₅ ≡ sets l₄ (at + safe_at) (word_bytes 4 x.safe.0)
    → l₆ ≡ sets l₅ (at + delivered_at) (word_bytes 4 x.delivered.0)
    → l₇ ≡ sets l₆ (at + held_messages_at) (words_bytes 2 x.senders ++ words_bytes 2 x.services ++ x.lengths)
    → l₇ ≡ sets l at (log_bytes (log_on x (contents_in l at)))
unfolding log_bytes held_bytes
log-stored x at l l₁ l₂ l₃ l₄ l₅ l₆ l₇ a room e₁ e₂ e₃ e₄ e₅ e₆ e₇ =
    let front = word_bytes 4 x.ring.0 ++ word_bytes 1 x.count ++ words_bytes 2 x.members ++ word_bytes 4 x.level.0 ++ word_bytes 4 x.safe.0 ++ word_bytes 4 x.delivered.0 in
    let places = words_bytes 2 x.senders ++ words_bytes 2 x.services ++ x.lengths in
    let size : length places ≡ held_contents_at = simp (length-append, words_long 2 most_held x.senders a.senders, words_long 2 most_held x.services a.services, a.lengths) in
    let spot : at + (held_messages_at + held_contents_at) ≡ at + held_messages_at + held_contents_at = omega arith in
    let w₁ = stored-word 4 x.ring.0 l₁ (stored-none l at) e₁ in
    let w₂ = stored-word 1 x.count l₂ w₁ e₂ in
    let w₃ = stored-words 2 most_members x.members l₃ w₂ a.members e₃ in
    let w₄ = stored-word 4 x.level.0 l₄ w₃ e₄ in
    let w₅ = stored-word 4 x.safe.0 l₅ w₄ e₅ in
    let w₆ = stored-word 4 x.delivered.0 l₆ w₅ e₆ in
    let w₇ = stored_next held_contents_at places l₇ w₆ size e₇ in
    let w₈ = left_alone held_contents w₇ (omega (arith, room)) in
    rw (← spot) (w₈.is ∙ ap (sets l at) (append_assoc front places (bytes_at held_contents l (at + (held_messages_at + held_contents_at)))))

pub turn-stored : (t : Turn) (at : ℕ) (l l₁ l₂ l₃ l₄ l₅ l₆ l₇ l₈ : List ℕ)
    → l₁ ≡ sets l (at + turn_aru_at) (word_bytes 4 t.aru.0)
    → l₂ ≡ sets l₁ (at + earlier_at) (word_bytes 4 t.earlier.0)
    → l₃ ≡ sets l₂ (at + turn_number_at) (word_bytes 4 t.number.0)
    → l₄ ≡ sets l₃ (at + broadcast_at) (word_bytes 1 t.broadcast)
    → l₅ ≡ sets l₄ (at + stall_at) (word_bytes 1 t.stall)
    → l₆ ≡ sets l₅ (at + waited_at) (word_bytes 1 t.waited)
    → l₇ ≡ sets l₆ (at + token_size_at) (word_bytes 1 t.size)
    → l₈ ≡ sets l₇ (at + token_at) t.token
    → l₈ ≡ sets l at (turn_bytes t)
unfolding turn_bytes
turn-stored t at l l₁ l₂ l₃ l₄ l₅ l₆ l₇ l₈ e₁ e₂ e₃ e₄ e₅ e₆ e₇ e₈ =
    let w₁ = stored-word 4 t.aru.0 l₁ (stored-none l at) e₁ in
    let w₂ = stored-word 4 t.earlier.0 l₂ w₁ e₂ in
    let w₃ = stored-word 4 t.number.0 l₃ w₂ e₃ in
    let w₄ = stored-word 1 t.broadcast l₄ w₃ e₄ in
    let w₅ = stored-word 1 t.stall l₅ w₄ e₅ in
    let w₆ = stored-word 1 t.waited l₆ w₅ e₆ in
    let w₇ = stored-word 1 t.size l₇ w₆ e₇ in
    let w₈ = stored_next (length t.token) t.token l₈ w₇ refl e₈ in
    w₈.is

pub posts-stored : (p : PostsHead) (at : ℕ) (l l₁ l₂ l₃ : List ℕ)
    → length p.services ≡ most_posts
    → length p.lengths ≡ most_posts
    → at + posts_size ≤ length l
    → l₁ ≡ sets l (at + post_count_at) (word_bytes 1 p.count)
    → l₂ ≡ sets l₁ (at + post_services_at) (words_bytes 2 p.services)
    → l₃ ≡ sets l₂ (at + post_lengths_at) p.lengths
    → l₃ ≡ sets l at (posts_bytes (posts_on p (waiting_in l at)))
unfolding posts_bytes
posts-stored p at l l₁ l₂ l₃ services lengths room e₁ e₂ e₃ =
    let w₁ = stored-word 1 p.count l₁ (stored-none l at) e₁ in
    let w₂ = stored-words 2 most_posts p.services l₂ w₁ services e₂ in
    let w₃ = stored_next most_posts p.lengths l₃ w₂ lengths e₃ in
    let w₄ = left_alone post_contents w₃ (omega (arith, room)) in
    w₄.is

-- ---- a head, with the contents left alone

head-arrays : (panel : ℕ) (h : Head) (l : List ℕ)
    → HeadArrays h.log
    → length h.turn.token ≡ longest_token
    → length h.posts.services ≡ most_posts
    → length h.posts.lengths ≡ most_posts
    → record_size ≤ length l
    → RecordArrays (record_showing panel h (contents_in l log_at) (waiting_in l posts_at))
head-arrays panel h l a token services lengths room =
    record {
      log = record { members = a.members; held = record { senders = a.senders; services = a.services; lengths = a.lengths; contents = length-take-le held_contents (drop (log_at + held_messages_at + held_contents_at) l) (rw length-drop (omega arith)) } };
      token = token;
      posts = record { services = services; lengths = lengths; contents = length-take-le post_contents (drop (posts_at + post_contents_at) l) (rw length-drop (omega arith)) };
    }

-- bytes past what was stored at the front
part-past : {l : List ℕ} {p : List ℕ} {n : ℕ} {l₁ : List ℕ} (k at : ℕ) → Stored l 0 p n l₁ → n ≤ at → bytes_at k l₁ at ≡ bytes_at k l at
part-past {l} {p} {n} {l₁} k at first past = ap (take k) (rw first.is (part-after at 0 p l (omega (arith, first.size))))

pub head-stored : (panel : ℕ) (h : Head) (l l₁ l₂ l₃ l₄ l₅ : List ℕ)
    → HeadArrays h.log
    → length h.turn.token ≡ longest_token
    → length h.posts.services ≡ most_posts
    → length h.posts.lengths ≡ most_posts
    → record_size ≤ length l
    → l₁ ≡ sets l own_at (word_bytes 2 h.own)
    → l₂ ≡ sets l₁ panel_at (word_bytes 1 panel)
    → l₃ ≡ sets l₂ log_at (log_bytes (log_on h.log (contents_in l₂ log_at)))
    → l₄ ≡ sets l₃ turn_at (turn_bytes h.turn)
    → l₅ ≡ sets l₄ posts_at (posts_bytes (posts_on h.posts (waiting_in l₄ posts_at)))
    → l₅ ≡ record_bytes (record_showing panel h (contents_in l log_at) (waiting_in l posts_at)) ++ drop record_size l
unfolding record_bytes
head-stored panel h l l₁ l₂ l₃ l₄ l₅ log token services lengths room e₁ e₂ e₃ e₄ e₅ =
    let a = head-arrays panel h l log token services lengths room in
    let r = record_showing panel h (contents_in l log_at) (waiting_in l posts_at) in
    let w₁ = stored-word 2 h.own l₁ (stored-none l 0) e₁ in
    let w₂ = stored-word 1 panel l₂ w₁ e₂ in
    let w₃ = stored_next log_size (log_bytes r.log) l₃ w₂ (log-length r.log a.log) (rw (part-past held_contents (log_at + held_messages_at + held_contents_at) w₂ (omega arith)) at e₃) in
    let w₄ = stored_next turn_size (turn_bytes r.turn) l₄ w₃ (turn-length r.turn a.token) e₄ in
    let w₅ = stored_next posts_size (posts_bytes r.posts) l₅ w₄ (posts-length r.posts a.posts) (rw (part-past post_contents (posts_at + post_contents_at) w₄ (omega arith)) at e₅) in
    w₅.is ∙ front-stored record_size (record_bytes r) l (record-length r a) room

-- ---- the contents, and then the head

pub encoded : (r : Record) (panel : ℕ) (h : Head) (contents waiting l l₁ l₂ l₃ : List ℕ)
    → length contents ≡ held_contents
    → length waiting ≡ post_contents
    → record_size ≤ length l
    → l₁ ≡ sets l (log_at + held_messages_at + held_contents_at) contents
    → l₂ ≡ sets l₁ (posts_at + post_contents_at) waiting
    → record_showing panel h contents waiting ≡ r
    → l₃ ≡ record_bytes (record_showing panel h (contents_in l₂ log_at) (waiting_in l₂ posts_at)) ++ drop record_size l₂
    → l₃ ≡ record_bytes r ++ drop record_size l
encoded r panel h contents waiting l l₁ l₂ l₃ size size₂ room e₁ e₂ e e₃ =
    let long₁ : length l₁ ≡ length l = rw e₁ (length-sets l (log_at + held_messages_at + held_contents_at) contents) in
    let there : contents_in l₂ log_at ≡ contents =
    rw e₂ (part-before held_contents (log_at + held_messages_at + held_contents_at) (posts_at + post_contents_at) waiting l₁ (omega arith)
    ∙ rw e₁ (rw size at (part-written (log_at + held_messages_at + held_contents_at) contents l (omega (arith, size))))) in
    let there₂ : waiting_in l₂ posts_at ≡ waiting = rw e₂ (rw size₂ at (part-written (posts_at + post_contents_at) waiting l₁ (omega (arith, size₂, long₁)))) in
    let past : drop record_size l₂ ≡ drop record_size l =
    rw e₂ (part-after record_size (posts_at + post_contents_at) waiting l₁ (omega (arith, size₂))
    ∙ rw e₁ (part-after record_size (log_at + held_messages_at + held_contents_at) contents l (omega (arith, size)))) in
    rw (there, there₂, past, e) at e₃
