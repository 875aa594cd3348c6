-- New messages keep a log good.
use Prim.Native.Nat.{ℕ, zero, suc, ◌+◌, ◌*◌, ◌≤◌}
use mathlib.Core.Path.{◌≡◌}
use mathlib.Core.Logic.{◌≢◌}
use mathlib.Core.Bool.{true, false}
use mathlib.Core.List.{List, [], ◌∷◌}
use borrow.Author.Tests.{ne_eqb}
use native.Mathlib.Decide.{ℕ_discrete}
use native.Mathlib.Omega.{arith}
use lib.ListN.{length, get_or, drop, length-take}
use Rattle.frames.specs.Number.{most_number, most_id}
use Rattle.frames.specs.Layout.{most_content}
use Rattle.record.specs.Held.{holds, stored}
use Rattle.record.specs.Posts.{Post, posts_from}
use Rattle.record.specs.Members.{is_member}
use Rattle.record.specs.Ring.{ids}
use Rattle.record.specs.declared.log.Log.{Log}
use Rattle.record.specs.declared.posts.Posts.{Posts}
use Rattle.record.proofs.RangeFacts.{PostsRange}
use Rattle.record.proofs.HeldWhole.{EntryGood}
use Rattle.record.proofs.LogWhole.{not-held}
use Rattle.record.proofs.WholeFacts.{LogReady}
use Rattle.visit.specs.Visit.{sent_by, with_sent}
use Rattle.visit.specs.Reads.{Each}
use Rattle.visit.proofs.NewLaws.{NewFit, later-fit}
use Rattle.visit.proofs.LogSteps.{stored-ready, stored-holds}

-- the first of them
module _ (l : Log) (own highest : ℕ) (p : Post) (ps : List Post) (g : LogReady l) (fit : NewFit l own highest (p ∷ ps))
    (below : (n : ℕ) → holds l n ≡ true → n ≤ highest) (good : EntryGood (ids l) (sent_by own p)) where
  free : holds l (suc highest) ≡ false
  free = not-held l (suc highest) (λ held. let h = below (suc highest) held in omega arith)

  first-ready : suc highest ≤ most_number → LogReady (stored l (suc highest) (sent_by own p))
  first-ready most = stored-ready l (suc highest) (sent_by own p) g good free (omega (arith, fit.low)) (omega (arith, fit.high (omega arith))) most

  first_below : (n : ℕ) → holds (stored l (suc highest) (sent_by own p)) n ≡ true → n ≤ suc highest
  first_below n held =
      elim (ℕ_discrete n (suc highest)) [
        | yes q ↦ omega arith
        | no q ↦
            let told = rw (stored-holds l (suc highest) (sent_by own p) g good free (omega (arith, fit.low)) (omega (arith, fit.high (omega arith))) n, ne_eqb n (suc highest) q) at held in
            let h = below n told in
            omega arith
      ]

pub new-ready : (l : Log) (own highest : ℕ) (ps : List Post)
    → LogReady l
    → NewFit l own highest ps
    → highest + length ps ≤ most_number
    → ((n : ℕ) → holds l n ≡ true → n ≤ highest)
    → Each (λ p. EntryGood (ids l) (sent_by own p)) ps
    → LogReady (with_sent l own highest ps)
unfolding with_sent
new-ready l own highest [] g fit most below good = g
new-ready l own highest (p ∷ ps) g fit most below good =
    new-ready (stored l (suc highest) (sent_by own p)) own (suc highest) ps
    (first-ready l own highest p ps g fit below good.0 (omega arith))
    (later-fit l own highest p ps fit)
    (omega arith)
    (first_below l own highest p ps g fit below good.0)
    good.1

-- ---- the posts that wait are good messages of one's own

pub posts-entries : (members : List ℕ) (own : ℕ) (p : Posts) (place n : ℕ)
    → PostsRange p
    → own ≢ 0
    → own ≤ most_id
    → is_member members own ≡ true
    → Each (λ post. EntryGood members (sent_by own post)) (posts_from p place n)
unfolding posts_from
posts-entries members own p place zero range some most among = tt
posts-entries members own p place (suc n) range some most among = (
  record {
    named = some;
    sender = most;
    member = among;
    service = range.services place;
    short = omega (arith, length-take (get_or p.lengths place 0) (drop (most_content * place) p.contents), range.lengths place);
  },
  posts-entries members own p (suc place) n range some most among,
)
