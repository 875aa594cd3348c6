-- Founding: the ring's first token.
use Prim.Native.Nat.{ℕ, ◌≤◌}
use mathlib.Core.Path.{◌≡◌, ◌∙◌}
use mathlib.Core.Bool.{true}
use mathlib.Core.List.{List}
use borrow.Author.Tests.{le-leb}
use native.Mathlib.Omega.{arith}
use lib.ListN.{length}
use Rattle.words.specs.Scan.{every}
use Rattle.frames.specs.Layout.{shortest_token}
use Rattle.frames.specs.Token.{numbers_in, requests_follow, token_follows, token_bytes}
use Rattle.frames.specs.Write.{writing_of, token_put}
use Rattle.frames.proofs.Sizes.{token-length}
use Rattle.frames.proofs.WriteLaws.{token-put}
use Rattle.record.specs.Members.{members_counted, ids_follow, own_among, ring_in_range, foundable}
use Rattle.visit.specs.Output.{followed_by}
use Rattle.visit.proofs.RingFacts.{representative-id, header-follows}
use Rattle.station.specs.Found.{first_token}

pub foundable-when : (ids : List ℕ) (own ring : ℕ) → members_counted ids ≡ true → ids_follow ids ≡ true → own_among ids own ≡ true → ring_in_range ring ≡ true → foundable ids own ring ≡ true
unfolding foundable
foundable-when ids own ring counted follow among ranged = rw (counted, follow, among, ranged)

-- ---- the header of its frames, and the first token

module _ (ids : List ℕ) (own ring : ℕ) (e : foundable ids own ring ≡ true) where
  pub first-follows : token_follows (first_token ids ring) ≡ true
  unfolding token_follows first_token numbers_in requests_follow every
  first-follows = rw (header-follows ids own ring e, representative-id ids own ring e)

pub first-length : (ids : List ℕ) (ring : ℕ) → length (token_bytes (first_token ids ring)) ≡ shortest_token
unfolding first_token numbers_in
first-length ids ring = token-length (first_token ids ring) (omega arith)

-- what the writer leaves
pub first_written : (ids : List ℕ) (own ring : ℕ) (out out' : List ℕ)
    → foundable ids own ring ≡ true
    → shortest_token ≤ length out
    → out' ≡ token_put (first_token ids ring) out
    → out' ≡ followed_by (token_bytes (first_token ids ring)) out
unfolding writing_of first_token
first_written ids own ring out out' e room w =
    let size = first-length ids ring in
    w ∙ token-put (first_token ids ring) out (first-follows ids own ring e) (omega arith) ∙ rw (first-follows ids own ring e, le-leb (length (token_bytes (first_token ids ring))) (length out) (omega (arith, size)))
