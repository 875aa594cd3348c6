-- How many bytes each part of the record has: arrays of their own lengths, one after another.
use Prim.Native.Nat.{ℕ, ◌*◌}
use mathlib.Core.Path.{◌≡◌, ◌∙◌}
use mathlib.Core.List.{List}
use lib.ListN.{length, length-append}
use Rattle.words.specs.Run.{words_bytes}
use Rattle.words.proofs.WordLaws.{length-word}
use Rattle.words.proofs.RunLaws.{length-words-bytes}
use Rattle.frames.specs.Layout.{longest_token}
use Rattle.record.specs.Size.{most_members, most_held, most_posts}
use Rattle.record.specs.Layout.{held_size, log_size, turn_size, posts_size, record_size}
use Rattle.record.specs.Bytes.{held_bytes, log_bytes, turn_bytes, posts_bytes, record_bytes}
use Rattle.record.specs.declared.log.Held.{Held}
use Rattle.record.specs.declared.log.Log.{Log}
use Rattle.record.specs.declared.turn.Turn.{Turn}
use Rattle.record.specs.declared.posts.Posts.{Posts}
use Rattle.record.specs.declared.Record.{Record}
use Rattle.record.proofs.Arrays.{HeldArrays, LogArrays, PostsArrays, RecordArrays}

pub words_long : (w n : ℕ) (xs : List ℕ) → length xs ≡ n → length (words_bytes w xs) ≡ w * n
words_long w n xs long = length-words-bytes w xs ∙ rw long

pub held-length : (h : Held) → HeldArrays h → length (held_bytes h) ≡ held_size
unfolding held_bytes
held-length h a = simp (length-append, words_long 2 most_held h.senders a.senders, words_long 2 most_held h.services a.services, a.lengths, a.contents)

pub log-length : (l : Log) → LogArrays l → length (log_bytes l) ≡ log_size
unfolding log_bytes
log-length l a = simp (length-append, length-word, words_long 2 most_members l.members a.members, held-length l.held a.held)

pub turn-length : (t : Turn) → length t.token ≡ longest_token → length (turn_bytes t) ≡ turn_size
unfolding turn_bytes
turn-length t a = simp (length-append, length-word, a)

pub posts-length : (p : Posts) → PostsArrays p → length (posts_bytes p) ≡ posts_size
unfolding posts_bytes
posts-length p a = simp (length-append, length-word, words_long 2 most_posts p.services a.services, a.lengths, a.contents)

pub record-length : (r : Record) → RecordArrays r → length (record_bytes r) ≡ record_size
unfolding record_bytes
record-length r a = simp (length-append, length-word, log-length r.log a.log, turn-length r.turn a.token, posts-length r.posts a.posts)
