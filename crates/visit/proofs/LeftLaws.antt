-- Step 9 in the record's bytes: handed out, let go, the posts taken, and the head stored.
use Prim.Native.Nat.{ℕ, ◌+◌}
use mathlib.Core.Path.{◌≡◌, ap, ◌∙◌}
use mathlib.Core.List.{List, [], ◌++◌, append-nil}
use native.Mathlib.Omega.{arith}
use lib.ListN.{length, take, drop, drop_of_length-le}
use Rattle.record.specs.Bytes.{record_bytes}
use Rattle.record.specs.inner.Head.{log_on, posts_on, record_in, contents_in, waiting_in, head_with_parts}
use Rattle.record.specs.Held.{let_go}
use Rattle.record.specs.Layout.{record_size, log_at, turn_at, posts_at, post_contents_at}
use Rattle.record.specs.Parts.{with_parts}
use Rattle.record.specs.Posts.{taken}
use Rattle.record.specs.declared.head.LogHead.{LogHead}
use Rattle.record.specs.declared.head.PostsHead.{PostsHead}
use Rattle.record.specs.declared.head.Head.{Head}
use Rattle.record.specs.declared.log.Log.{Log}
use Rattle.record.specs.declared.posts.Posts.{Posts}
use Rattle.record.specs.declared.Record.{Record}
use Rattle.record.proofs.PartLaws.{waiting_stays, contents-stay}
use Rattle.visit.specs.Deliver.{due, delivered}
use Rattle.visit.specs.inner.Steps.{head_delivered}

-- s is let go of to s₁, and its posts are taken to s₂; then the head is stored
pub stored-left : (h : Head) (s s₁ s₂ s₃ : List ℕ) (n : ℕ) (gone : LogHead) (waits : PostsHead) (safe new_numbers : ℕ)
    → length s₂ ≡ record_size
    → n ≡ length (due (log_on h.log (contents_in s log_at)) safe)
    → (log_on gone (contents_in s₁ log_at) ≡ let_go (log_on (head_delivered h.log n) (contents_in s log_at)) safe) × (drop turn_at s₁ ≡ drop turn_at s)
    → (posts_on waits (waiting_in s₂ posts_at) ≡ taken (posts_on h.posts (waiting_in s₁ posts_at)) new_numbers) × (take (posts_at + post_contents_at) s₂ ≡ take (posts_at + post_contents_at) s₁)
    → s₃ ≡ record_bytes (record_in (head_with_parts h gone h.turn waits) s₂) ++ drop record_size s₂
    → s₃ ≡ record_bytes (with_parts (record_in h s) (let_go (delivered (record_in h s).log safe) safe) h.turn (taken (record_in h s).posts new_numbers))
unfolding delivered
stored-left h s s₁ s₂ s₃ n gone waits safe new_numbers long counts goes takes puts =
    let none : drop record_size s₂ ≡ [] = drop_of_length-le s₂ {i = record_size} (omega (arith, long)) in
    let log : log_on gone (contents_in s₂ log_at) ≡ let_go (delivered (record_in h s).log safe) safe = rw (contents-stay s₁ s₂ takes.1) (rw counts at goes.0) in
    let posts : posts_on waits (waiting_in s₂ posts_at) ≡ taken (record_in h s).posts new_numbers = rw (waiting_stays s s₁ goes.1) at takes.0 in
    let rest : Log → Posts → Record = λ (x : Log) (y : Posts). with_parts (record_in h s) x h.turn y in
    rw (none, append-nil) at puts
    ∙ ap (λ (x : Log). record_bytes (rest x (posts_on waits (waiting_in s₂ posts_at)))) log
    ∙ ap (λ (y : Posts). record_bytes (rest (let_go (delivered (record_in h s).log safe) safe) y)) posts
