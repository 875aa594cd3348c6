-- The token that is written follows the layout, reads, and passes 10 to 14.
use Rattle.std.specs.Prelude.{Option, Some, None}
use Prim.Native.Nat.{ℕ, ◌+◌, ◌-◌, ◌<◌, ◌≤◌}
use mathlib.Core.Path.{◌≡◌, refl}
use mathlib.Core.Bool.{Bool, true, false, not, cond, and-false}
use mathlib.Core.List.{List, [], ◌∷◌}
use borrow.Author.Tests.{le-leb, eqb-false, eq-eqb, ne_eqb, not-true}
use native.Mathlib.Omega.{arith}
use lib.ListN.{length, get_or, replicate, length-append}
use lib.Dec.{ltb, eqb}
use Rattle.words.specs.Scan.{every, lacks}
use Rattle.frames.specs.Number.{most_number, is_number, is_id}
use Rattle.frames.specs.Layout.{most_round, most_backlog, most_requests, longest_token, token_size}
use Rattle.frames.specs.Token.{blocker_follows, token_follows, token_bytes}
use Rattle.frames.specs.Read.{read_of, a_token}
use Rattle.frames.proofs.NumberedLaws.{numbers-back}
use Rattle.frames.proofs.Facts.{part}
use Rattle.frames.proofs.Restored.{token-restored}
use Rattle.frames.proofs.Sizes.{token-length}
use Rattle.record.specs.Members.{is_member, representative}
use Rattle.record.specs.Ring.{ids, this_ring, blocker_member, token_members, token_passes}
use Rattle.visit.specs.Visit.{Visit, log, own, highest', level', own_or_nobody, sets_aru, aru', blocker', requests', round', backlog', next_in, next_member, token'}
use Rattle.visit.specs.Reads.{Each}
use Rattle.visit.specs.Acceptable.{Acceptable}
use Rattle.visit.proofs.LevelLaws.{not-both, neither}
use Rattle.visit.proofs.EachLaws.{each_map}
use Rattle.visit.proofs.RingFacts.{founded-facts, ring-header, member-id, own-id}
use Rattle.visit.proofs.VisitFacts.{facts, token-good, round-most, backlog-most, highest-most, level-most'}
use Rattle.visit.proofs.RequestLaws.{few-requests, requests-follow}

-- ---- the member after one

-- each of a list is a member of it
pub members-all : (xs : List ℕ) → Each (λ x. is_member xs x ≡ true) xs
unfolding every
members-all [] = tt
members-all (y ∷ ys) = (rw (eq-eqb y y refl), each_map (λ x. is_member ys x ≡ true) (λ x. is_member (y ∷ ys) x ≡ true) ys later (members-all ys))
  where
    later : (x : ℕ) → is_member ys x ≡ true → is_member (y ∷ ys) x ≡ true
    later x m = simp (not-true (lacks ys x) m, and-false)

next-in : (P : ℕ → Type 0) (first : ℕ) (xs : List ℕ) (id : ℕ) → P first → Each P xs → P (next_in first xs id)
unfolding next_in
next-in P first [] id start all = start
next-in P first (x ∷ xs) id start all = go (eqb x id) (next-in P first xs id start all.1)
  where
    after : (ys : List ℕ) → Each P ys → P (get_or ys 0 first)
    after [] rest = start
    after (y ∷ ys) rest = rest.0

    go : (b : Bool) → P (next_in first xs id) → P (cond b (get_or xs 0 first) (next_in first xs id))
    go true later = after xs all.1
    go false later = later

representative-member : (xs : List ℕ) → 0 < length xs → is_member xs (representative xs) ≡ true
representative-member [] some = absurd (omega arith)
representative-member (x ∷ xs) some = (members-all (x ∷ xs)).0

pub next-member : (xs : List ℕ) (id : ℕ) → 0 < length xs → is_member xs (next_member xs id) ≡ true
next-member xs id some = next-in (λ x. is_member xs x ≡ true) (representative xs) xs id (representative-member xs some) (members-all xs)

-- ---- aru and blocker

module _ (v : Visit) (a : Acceptable v) where
  highest-grows : v.token.highest.0 ≤ highest' v
  unfolding highest'
  highest-grows = omega arith

  -- what stays, stays below the highest number and blocked by another
  kept-follows : (b : Option ℕ) (aru highest : ℕ) → own_or_nobody (own v) b ≡ false → aru ≤ highest → highest ≤ highest' v → blocker_follows b aru highest ≡ true → blocker_follows b aru (highest' v) ≡ true
  kept-follows None aru highest other low grows e = absurd (not-both refl other)
  kept-follows (Some id) aru highest other low grows e =
      let differs = eqb-false aru highest (not-true (eqb aru highest) (part e (λ (f : not (eqb aru highest) ≡ false). rw f))) in
      let known = part e (λ (f : is_id id ≡ false). simp (f, and-false)) in
      let apart : aru ≡ highest' v → ⊥ = λ q. differs (omega arith) in
      rw (ne_eqb aru (highest' v) apart, known)

  set-follows : (b : Bool) → eqb (level' v) (highest' v) ≡ b → blocker_follows (cond b None (Some (own v))) (level' v) (highest' v) ≡ true
  set-follows true e = e
  set-follows false e = rw (e, own-id v.rec (facts v a))

  set-members : (b : Bool) → blocker_member (ids (log v)) (cond b None (Some (own v))) ≡ true
  set-members true = refl
  set-members false = (founded-facts v.rec (facts v a)).among

  pub record BlockerGood (aru : ℕ) (blocker : Option ℕ) : Type 0 where
    pub low : aru ≤ highest' v
    pub follows : blocker_follows blocker aru (highest' v) ≡ true
    pub member : blocker_member (ids (log v)) blocker ≡ true

  token-blocker : blocker_member (ids (log v)) v.token.blocker ≡ true
  unfolding token_members
  token-blocker = part a.members (λ (f : blocker_member (ids (log v)) v.token.blocker ≡ false). simp (f, and-false))

  blocker-case : (sets : Bool) → sets_aru v ≡ sets → BlockerGood (cond sets (level' v) v.token.aru.0) (cond sets (cond (eqb (level' v) (highest' v)) None (Some (own v))) v.token.blocker)
  unfolding sets_aru
  blocker-case true e =
      record {
        low = level-most' v a;
        follows = set-follows (eqb (level' v) (highest' v)) refl;
        member = set-members (eqb (level' v) (highest' v));
      }
  blocker-case false e =
      record {
        low = omega (arith, (token-good v a).aru, highest-grows);
        follows = kept-follows v.token.blocker v.token.aru.0 v.token.highest.0 (neither (ltb (level' v) v.token.aru.0) (own_or_nobody (own v) v.token.blocker) e).1 (token-good v a).aru highest-grows (token-good v a).blocker;
        member = token-blocker;
      }

  pub blocker-good : BlockerGood (aru' v) (blocker' v)
  unfolding aru' blocker'
  blocker-good = blocker-case (sets_aru v) refl

  -- ---- the token

  pub next-good : is_member (ids (log v)) (next_member (ids (log v)) (own v)) ≡ true
  next-good = next-member (ids (log v)) (own v) (omega (arith, (founded-facts v.rec (facts v a)).some))

  number-next : is_number (v.token.number.0 + 1) ≡ true
  number-next = rw (le-leb 1 (v.token.number.0 + 1) (omega arith), le-leb (v.token.number.0 + 1) most_number (omega (arith, a.not_last)))

  pub token-follows : token_follows (token' v) ≡ true
  unfolding token_follows token'
  token-follows =
      rw (
        numbers-back,
        ring-header v.rec (facts v a),
        member-id v.rec (facts v a) (next_member (ids (log v)) (own v)) next-good,
        number-next,
        le-leb (highest' v) most_number (highest-most v a),
        le-leb (aru' v) (highest' v) blocker-good.low,
        blocker-good.follows,
        le-leb (round' v) most_round (round-most v),
        le-leb (backlog' v) most_backlog (backlog-most v),
        requests-follow v a,
      )

  pub token-reads : read_of (token_bytes (token' v)) ≡ a_token (token' v)
  token-reads = token-restored (token' v) token-follows

  token-members : token_members (ids (log v)) (token' v) ≡ true
  unfolding token_members token'
  token-members = rw (next-good, blocker-good.member)

  this-ring : this_ring (log v).ring.0 (ids (log v)) (token' v).header ≡ true
  unfolding this_ring token'
  this-ring = rw (eq-eqb (log v).ring.0 (log v).ring.0 refl, eq-eqb (representative (ids (log v))) (representative (ids (log v))) refl)

  pub token-passes : token_passes (log v).ring.0 (ids (log v)) (token_bytes (token' v)) ≡ true
  unfolding token_passes
  token-passes = rw (token-reads, this-ring, token-members)

  -- ---- its length

  pub token-long : length (token_bytes (token' v)) ≡ token_size (length (requests' v))
  unfolding token'
  token-long =
      let pad : List ℕ = replicate (most_requests - length (requests' v)) 0 in
      token-length (token' v) (rw numbers-back (omega (arith, length-append (requests' v) pad)))

  pub token-short : length (token_bytes (token' v)) ≤ longest_token
  token-short = omega (arith, token-long, few-requests v a)
