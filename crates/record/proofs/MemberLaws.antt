-- Members, founding questions, and the token that may be resent.
use Prim.Native.Nat.{ℕ, ◌-◌, ◌≤◌}
use mathlib.Core.Path.{◌≡◌, refl}
use mathlib.Core.Bool.{Bool, true, false, not, false≢true, and-false, ◌&&◌, ◌||◌}
use Rattle.std.specs.List.{list_any}
use mathlib.Core.List.{List, [], ◌∷◌}
use borrow.Author.Tests.{leb-true, eqb-true, eq-eqb, ne_eqb}
use native.Mathlib.Nat.{sub-zero}
use lib.ListN.{length, take}
use lib.Dec.{leb, eqb}
use Rattle.words.specs.Scan.{every, all_within}
use Rattle.frames.specs.Number.{most_id}
use Rattle.frames.proofs.Facts.{part}
use Rattle.record.specs.Size.{least_members, most_members}
use Rattle.record.specs.Members.{is_member, ids_follow, foundable}
use Rattle.record.specs.Ring.{token_passes}
use Rattle.record.specs.Whole.{resend_passes}
use Rattle.record.specs.declared.turn.Turn.{Turn}

-- ---- what the founding questions tell

-- what holds of all holds of a member
pub member-passes : (test : ℕ → Bool) (ids : List ℕ) (x : ℕ)
    → is_member ids x ≡ true
    → every (λ z after. test z) ids ≡ true
    → test x ≡ true
unfolding every
member-passes test [] x m e = absurd (false≢true m)
member-passes test (y ∷ ids) x m e =
    let rest : every (λ z after. test z) ids ≡ true = part e (λ (f : every (λ z after. test z) ids ≡ false). simp (f, and-false)) in
    here-or-later (eqb y x) refl (λ later. member-passes test ids x later rest)
  where
    here-or-later : (here : Bool) → eqb y x ≡ here → (is_member ids x ≡ true → test x ≡ true) → test x ≡ true
    here-or-later true h later = rw (eqb-true y x h) at (part e (λ (f : test y ≡ false). rw f))
    here-or-later false h later = later (rw h at m)

pub record FoundableFacts (ids : List ℕ) (own : ℕ) : Type 0 where
  pub some : least_members ≤ length ids
  pub few : length ids ≤ most_members
  pub known : all_within 1 most_id ids ≡ true
  pub among : is_member ids own ≡ true

pub foundable-facts : (ids : List ℕ) (own ring : ℕ) → foundable ids own ring ≡ true → FoundableFacts ids own
unfolding foundable ids_follow
foundable-facts ids own ring e =
    record {
      some = leb-true least_members (length ids) (part e (λ (f : leb least_members (length ids) ≡ false). rw f));
      few = leb-true (length ids) most_members (part e (λ (f : leb (length ids) most_members ≡ false). simp (f, and-false)));
      known = part e (λ (f : all_within 1 most_id ids ≡ false). simp (f, and-false));
      among = part e (λ (f : is_member ids own ≡ false). simp (f, and-false));
    }

pub own-most : (ids : List ℕ) (own : ℕ) → FoundableFacts ids own → own ≤ most_id
own-most ids own f =
    let e : leb 1 own && leb own most_id ≡ true = member-passes (λ x. leb 1 x && leb x most_id) ids own f.among f.known in
    leb-true own most_id (part e (λ (g : leb own most_id ≡ false). simp (g, and-false)))

-- ---- a token that may be resent

module _ (ring : ℕ) (members : List ℕ) (t : Turn) where
  pub leave_none : t.size ≡ 0 → true ≡ resend_passes ring members t
  unfolding resend_passes
  leave_none e = simp (eq-eqb _ _ e)

  -- the remembered token, as the code spells it
  pub leave-some : (passes : Bool)
      → (t.size ≡ 0 → ⊥)
      → passes ≡ token_passes ring members (take (t.size - 0) t.token)
      → passes ≡ resend_passes ring members t
  unfolding resend_passes
  leave-some passes some e = simp (ne_eqb _ _ some) (rw sub-zero at e)

-- as a search finds it
or-not : (a b c : Bool) → b ≡ not c → (a || b) ≡ not (not a && c)
or-not true b c e = refl
or-not false b c e = e

pub member-any : (ids : List ℕ) (id : ℕ) → list_any (λ y. eqb y id) ids ≡ is_member ids id
unfolding every
member-any [] id = refl
member-any (x ∷ ids) id = or-not (eqb x id) _ _ (member-any ids id)
