-- Contents that are zero past their lengths stay so when one is stored at a free place.
use Prim.Native.Nat.{ℕ, ◌+◌, ◌*◌, ◌-◌, ◌<◌, ◌≤◌}
use mathlib.Core.Path.{◌≡◌}
use mathlib.Core.Logic.{◌≢◌}
use mathlib.Core.Bool.{true}
use mathlib.Core.List.{List}
use native.Mathlib.Nat.{add-zero, zero-add}
use native.Mathlib.Decide.{ℕ_discrete}
use native.Mathlib.Omega.{arith}
use lib.ListN.{length, get_or, set, take, drop, length-set}
use lib.Seq.{sets, get_or-set_same, get_or-set_other}
use Rattle.words.specs.Scan.{all_zero}
use Rattle.words.proofs.ScanLaws.{within-most}
use Rattle.frames.specs.Layout.{most_content}
use Rattle.record.specs.Contents.{padding}
use Rattle.record.specs.Whole.{contents_padded}
use Rattle.record.proofs.CountLaws.{each-passes, all-pass}
use Rattle.record.proofs.ListLaws.{part-after, place-apart, Most, most-later, all-within}

pub padded-at : (lengths contents : List ℕ) → contents_padded lengths contents ≡ true → (place : ℕ) → place < length lengths → Most 0 (padding lengths contents place)
unfolding contents_padded
padded-at lengths contents e place h =
    let zeros = each-passes (λ i. all_zero (padding lengths contents i)) 0 (length lengths) e place h in
    within-most 0 0 (padding lengths contents place) (rw zero-add at zeros)

pub padded-from : (lengths contents : List ℕ) → ((place : ℕ) → place < length lengths → Most 0 (padding lengths contents place)) → contents_padded lengths contents ≡ true
unfolding contents_padded
padded-from lengths contents zeros =
    all-pass (λ i. all_zero (padding lengths contents i)) 0 (length lengths) (λ place h. rw zero-add (all-within 0 (padding lengths contents place) (zeros place h)))

-- ---- one more, at a place of length 0

module _ (lengths contents : List ℕ) (at : ℕ) (content : List ℕ) (few : length content ≤ most_content) (padded : contents_padded lengths contents ≡ true) where
  -- all of its bytes were zero
  new-padding : get_or lengths at 0 ≡ 0 → at < length lengths → Most 0 (padding (set lengths at (length content)) (sets contents (most_content * at) content) at)
  new-padding free h =
      let zeros : Most 0 (take most_content (drop (most_content * at) contents)) = rw (free, add-zero (most_content * at)) at (padded-at lengths contents padded at h) in
      rw (get_or-set_same lengths at (length content) 0 h, part-after (most_content * at + length content) (most_content * at) content contents (omega arith))
      (most-later 0 most_content (most_content * at) (length content) contents zeros)

  old-padding : Most most_content lengths → (place : ℕ) → place < length lengths → place ≢ at → Most 0 (padding (set lengths at (length content)) (sets contents (most_content * at) content) place)
  old-padding short place h other =
      let n = get_or lengths place 0 in
      rw (get_or-set_other lengths at place (length content) 0 other, place-apart place at n (most_content - n) content contents other (omega (arith, short place)) few)
      (padded-at lengths contents padded place h)

  pub padded-with : Most most_content lengths → get_or lengths at 0 ≡ 0 → contents_padded (set lengths at (length content)) (sets contents (most_content * at) content) ≡ true
  padded-with short free = padded-from (set lengths at (length content)) (sets contents (most_content * at) content) each
    where
      each : (place : ℕ) → place < length (set lengths at (length content)) → Most 0 (padding (set lengths at (length content)) (sets contents (most_content * at) content) place)
      each place h =
          let inside : place < length lengths = rw (length-set lengths at (length content)) at h in
          elim (ℕ_discrete place at) [
            | yes q ↦ rw q (new-padding free (rw q at inside))
            | no q ↦ old-padding short place inside q
          ]
