-- Parts read field by field, each array into zeros of its own length, are the parts that stand in the bytes.
use Rattle.std.proofs.lemmas.List.{take_rest}
use Prim.Native.Nat.{ℕ, ◌+◌, ◌-◌}
use mathlib.Core.Path.{◌≡◌, refl, ap, ◌∙◌}
use mathlib.Core.List.{List, [], ◌++◌, append-nil}
use lib.ListN.{length, take, drop}
use lib.Seq.{drop-drop}
use Rattle.words.specs.Word.{word_at}
use Rattle.words.specs.Run.{words}
use Rattle.frames.specs.Layout.{longest_token}
use Rattle.record.specs.Size.{most_members, most_held, most_posts, held_contents}
use Rattle.record.specs.Layout.{own_at, panel_at, log_at, turn_at, posts_at, log_ring_at, member_count_at, members_at, level_at, safe_at, delivered_at, held_messages_at, senders_at, held_services_at, held_lengths_at, held_contents_at, turn_aru_at, earlier_at, turn_number_at, broadcast_at, stall_at, waited_at, token_size_at, token_at, post_count_at, post_services_at, post_lengths_at, post_contents_at}
use Rattle.record.specs.Bytes.{bytes_at, held_of, log_of, turn_of, posts_of, record_of}
use Rattle.record.specs.inner.Head.{log_on, posts_on, record_showing, head_of, record_head, contents_in, waiting_in}
use Rattle.record.specs.declared.head.LogHead.{LogHead}
use Rattle.record.specs.declared.head.PostsHead.{PostsHead}
use Rattle.record.specs.declared.head.Head.{Head}
use Rattle.record.specs.declared.turn.Turn.{Turn}
use Rattle.record.specs.declared.posts.Posts.{Posts}

-- a part to the end, as the code spells it
abbrev to_end : List ℕ → ℕ → List ℕ
to_end s at = take (length s - at) (drop at s)

pub log-read : (s : List ℕ) (ring count : ℕ) (members : List ℕ) (level safe delivered : ℕ) (senders services lengths : List ℕ)
    → ring ≡ word_at 4 s log_ring_at
    → count ≡ word_at 1 s member_count_at
    → members ≡ words 2 most_members (drop members_at s) ++ []
    → level ≡ word_at 4 s level_at
    → safe ≡ word_at 4 s safe_at
    → delivered ≡ word_at 4 s delivered_at
    → senders ≡ words 2 most_held (drop (held_messages_at + senders_at) s) ++ []
    → services ≡ words 2 most_held (drop (held_messages_at + held_services_at) s) ++ []
    → lengths ≡ bytes_at most_held s (held_messages_at + held_lengths_at) ++ []
    → log_on (record { ring = record { 0 = ring }; count = count; members = members; level = record { 0 = level }; safe = record { 0 = safe }; delivered = record { 0 = delivered }; senders = senders; services = services; lengths = lengths }) (contents_in s 0)
    ≡ log_of s
unfolding log_of held_of
log-read s ring count members level safe delivered senders services lengths e₁ e₂ e₃ e₄ e₅ e₆ e₇ e₈ e₉ =
    let senders-there : senders ≡ words 2 most_held (drop senders_at (drop held_messages_at s)) = rw (drop-drop senders_at held_messages_at s) (e₇ ∙ append-nil _) in
    let services-there : services ≡ words 2 most_held (drop held_services_at (drop held_messages_at s)) = rw (drop-drop held_services_at held_messages_at s) (e₈ ∙ append-nil _) in
    let lengths-there : lengths ≡ bytes_at most_held (drop held_messages_at s) held_lengths_at = rw (drop-drop held_lengths_at held_messages_at s) (e₉ ∙ append-nil _) in
    let contents-there : contents_in s 0 ≡ bytes_at held_contents (drop held_messages_at s) held_contents_at = rw (drop-drop held_contents_at held_messages_at s) in
    rw (e₁, e₂, e₃, e₄, e₅, e₆, senders-there, services-there, lengths-there, contents-there) (simp append-nil)

pub turn-read : (s : List ℕ) (aru earlier number broadcast stall waited size : ℕ) (token : List ℕ)
    → aru ≡ word_at 4 s turn_aru_at
    → earlier ≡ word_at 4 s earlier_at
    → number ≡ word_at 4 s turn_number_at
    → broadcast ≡ word_at 1 s broadcast_at
    → stall ≡ word_at 1 s stall_at
    → waited ≡ word_at 1 s waited_at
    → size ≡ word_at 1 s token_size_at
    → token ≡ bytes_at longest_token s token_at ++ []
    → record { aru = record { 0 = aru }; earlier = record { 0 = earlier }; number = record { 0 = number }; broadcast = broadcast; stall = stall; waited = waited; size = size; token = token } ≡ turn_of s
unfolding turn_of
turn-read s aru earlier number broadcast stall waited size token e₁ e₂ e₃ e₄ e₅ e₆ e₇ e₈ = rw (e₁, e₂, e₃, e₄, e₅, e₆, e₇, e₈, append-nil)

pub posts-read : (s : List ℕ) (count : ℕ) (services lengths : List ℕ)
    → count ≡ word_at 1 s post_count_at
    → services ≡ words 2 most_posts (drop post_services_at s) ++ []
    → lengths ≡ bytes_at most_posts s post_lengths_at ++ []
    → posts_on (record { count = count; services = services; lengths = lengths }) (waiting_in s 0) ≡ posts_of s
unfolding posts_of
posts-read s count services lengths e₁ e₂ e₃ = rw (e₁, e₂, e₃) (simp append-nil)

pub head_read : (s : List ℕ) (own : ℕ) (log : LogHead) (turn : Turn) (posts : PostsHead)
    → own ≡ word_at 2 s own_at
    → log_on log (contents_in (to_end s log_at) 0) ≡ log_of (to_end s log_at)
    → turn ≡ turn_of (to_end s turn_at)
    → posts_on posts (waiting_in (to_end s posts_at) 0) ≡ posts_of (to_end s posts_at)
    → record { own = own; log = log; turn = turn; posts = posts } ≡ record_head (record_of s)
unfolding record_of
head_read s own log turn posts e₁ e₂ e₃ e₄ =
    let log_is : log ≡ head_of (log_of (drop log_at s)) = ap head_of (rw (take_rest s log_at) at e₂) in
    let posts-is : posts ≡ posts_head (posts_of (drop posts_at s)) = ap posts_head (rw (take_rest s posts_at) at e₄) in
    rw (e₁, log_is, rw (take_rest s turn_at) at e₃, posts-is)
  where
    posts_head : Posts → PostsHead
    posts_head p = record { count = p.count; services = p.services; lengths = p.lengths }

-- the contents stand in the bytes, so a record of its head and them is the record
pub contents-there : (s : List ℕ) → contents_in s log_at ≡ (record_of s).log.held.contents
unfolding record_of log_of held_of
contents-there s = rw (drop-drop held_contents_at held_messages_at (drop log_at s), drop-drop (held_messages_at + held_contents_at) log_at s)

pub waiting-there : (s : List ℕ) → waiting_in s posts_at ≡ (record_of s).posts.contents
unfolding record_of posts_of
waiting-there s = rw (drop-drop post_contents_at posts_at s)

pub panel-there : (s : List ℕ) → word_at 1 s panel_at ≡ (record_of s).panel
unfolding record_of
panel-there s = refl

pub decoded : (s : List ℕ) (panel : ℕ) (h : Head) (contents waiting : List ℕ)
    → panel ≡ word_at 1 s panel_at
    → h ≡ record_head (record_of s)
    → contents ≡ contents_in s log_at ++ []
    → waiting ≡ waiting_in s posts_at ++ []
    → record_showing panel h contents waiting ≡ record_of s
decoded s panel h contents waiting p e e₁ e₂ =
    rw (p ∙ panel-there s, e, e₁ ∙ append-nil (contents_in s log_at) ∙ contents-there s, e₂ ∙ append-nil (waiting_in s posts_at) ∙ waiting-there s)

pub count-read : (s : List ℕ) (n : ℕ) → n ≡ word_at 1 s (posts_at + post_count_at) → n ≡ (record_of s).posts.count
unfolding record_of posts_of word_at
count-read s n e = rw (drop-drop post_count_at posts_at s) e
