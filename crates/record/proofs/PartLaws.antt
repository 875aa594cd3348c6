-- A part of a record's bytes that is lent comes back changed, and nothing else is.
use Prim.Native.Nat.{ℕ, ◌+◌, ◌*◌, ◌-◌, ◌<◌, ◌≤◌}
use mathlib.Core.Path.{◌≡◌, sym, ap, ◌∙◌}
use mathlib.Core.List.{List, ◌++◌, append_assoc}
use native.Mathlib.Nat.{sub-zero}
use native.Mathlib.Omega.{arith}
use lib.ListN.{length, take, drop, length-drop}
use lib.Seq.{sets, sets-eq, length-take-le, take-take, take_at, drop-drop}
use Rattle.frames.specs.Layout.{most_content}
use Rattle.record.specs.Size.{most_posts, held_contents, post_contents}
use Rattle.record.specs.Layout.{log_at, turn_at, posts_at, held_messages_at, held_contents_at, turn_size, post_contents_at, record_size}
use Rattle.record.specs.inner.Head.{contents_in, waiting_in}
use Rattle.record.proofs.ListLaws.{part-before, part-after, part-written, drop-take}

-- the part is stored where it stood
back : (s w : List ℕ) (at : ℕ) → at + length w ≤ length s → take at s ++ (w ++ drop (length w) (drop at s)) ≡ sets s at w
back s w at room = rw (drop-drop (length w) at s, sets-eq w s at room, append_assoc (take at s) w (drop (at + length w) s))

contents-long : (s : List ℕ) → record_size ≤ length s → length (contents_in s log_at) ≡ held_contents
contents-long s room = length-take-le held_contents (drop (log_at + held_messages_at + held_contents_at) s) (rw length-drop (omega arith))

waiting-long : (s : List ℕ) → record_size ≤ length s → length (waiting_in s posts_at) ≡ post_contents
waiting-long s room = length-take-le post_contents (drop (posts_at + post_contents_at) s) (rw length-drop (omega arith))

module _ (s w : List ℕ) (size : length s ≡ record_size) where
  -- the contents of the held messages
  abbrev with_contents : List ℕ
  with_contents = take (log_at + held_messages_at + held_contents_at) s ++ (w ++ drop held_contents (drop (log_at + held_messages_at + held_contents_at) s))

  module _ (kept : length w ≡ length (contents_in s log_at)) where
    long : length w ≡ held_contents
    long = kept ∙ contents-long s (omega (arith, size))

    contents-back : with_contents ≡ sets s (log_at + held_messages_at + held_contents_at) w
    contents-back = rw long at (back s w (log_at + held_messages_at + held_contents_at) (omega (arith, size, long)))

    pub contents-put : contents_in with_contents log_at ≡ w
    contents-put = rw contents-back (rw long at (part-written (log_at + held_messages_at + held_contents_at) w s (omega (arith, size, long))))

    -- everything behind the log stays
    pub behind-left : drop turn_at with_contents ≡ drop turn_at s
    behind-left = rw contents-back (part-after turn_at (log_at + held_messages_at + held_contents_at) w s (omega (arith, long)))

  -- the contents of the waiting posts
  abbrev with_waiting : List ℕ
  with_waiting = take (posts_at + post_contents_at) s ++ (w ++ drop post_contents (drop (posts_at + post_contents_at) s))

  module _ (kept : length w ≡ length (waiting_in s posts_at)) where
    full : length w ≡ post_contents
    full = kept ∙ waiting-long s (omega (arith, size))

    waiting-back : with_waiting ≡ sets s (posts_at + post_contents_at) w
    waiting-back = rw full at (back s w (posts_at + post_contents_at) (omega (arith, size, full)))

    pub waiting-put : waiting_in with_waiting posts_at ≡ w
    waiting-put = rw waiting-back (rw full at (part-written (posts_at + post_contents_at) w s (omega (arith, size, full))))

    -- everything before them stays
    pub before-left : take (posts_at + post_contents_at) with_waiting ≡ take (posts_at + post_contents_at) s
    before-left = rw waiting-back (part-before (posts_at + post_contents_at) 0 (posts_at + post_contents_at) w s (omega arith))

-- ---- what stays where everything behind the log does, or everything before the posts' contents

-- bytes within the first n
within : (m k n : ℕ) (l : List ℕ) → k + m ≤ n → take m (drop k (take n l)) ≡ take m (drop k l)
within m k n l h = rw (drop-take k n l) (take-take m (n - k) (drop k l) (omega arith))

module _ (s t : List ℕ) where
  pub waiting_stays : drop turn_at t ≡ drop turn_at s → waiting_in t posts_at ≡ waiting_in s posts_at
  waiting_stays e = rw (drop-drop (turn_size + post_contents_at) turn_at t, drop-drop (turn_size + post_contents_at) turn_at s) at (ap (λ (x : List ℕ). take post_contents (drop (turn_size + post_contents_at) x)) e)

  pub contents-stay : take (posts_at + post_contents_at) t ≡ take (posts_at + post_contents_at) s → contents_in t log_at ≡ contents_in s log_at
  contents-stay e =
      let at = log_at + held_messages_at + held_contents_at in
      sym (within held_contents at (posts_at + post_contents_at) t (omega arith))
      ∙ ap (λ (x : List ℕ). take held_contents (drop at x)) e
      ∙ within held_contents at (posts_at + post_contents_at) s (omega arith)

-- ---- a waiting post's content, copied to a held message's place

pub content-copied : (s content rest : List ℕ) (post size : ℕ)
    → length s ≡ record_size
    → post < most_posts
    → size ≤ most_content
    → content ≡ take size (drop (posts_at + post_contents_at + most_content * post) s) ++ rest
    → take (size - 0) content ≡ take size (drop (most_content * post) (waiting_in s posts_at))
content-copied s content rest post size long few short e =
    let at = posts_at + post_contents_at in
    let there : length (take size (drop (at + most_content * post) s)) ≡ size = length-take-le size (drop (at + most_content * post) s) (rw length-drop (omega (arith, long))) in
    let same : take size (drop (at + most_content * post) s) ≡ take size (drop (most_content * post) (waiting_in s posts_at)) =
    ap (take size) (sym (drop-drop (most_content * post) at s)) ∙ sym (within size (most_content * post) post_contents (drop at s) (omega arith)) in
    rw (e, sub-zero) (take_at (take size (drop (at + most_content * post) s)) rest size there ∙ same)
