-- How far the level rises.
use Prim.Native.Nat.{ℕ, zero, suc, ◌+◌, ◌<◌, ◌≤◌}
use mathlib.Core.Path.{◌≡◌, refl, sym, ◌∙◌}
use mathlib.Core.Bool.{Bool, true, false, ◌||◌, cond}
use native.Mathlib.Decide.{dec_lt, ℕ_discrete}
use native.Mathlib.Omega.{arith}
use Rattle.record.specs.Size.{most_held}
use Rattle.record.specs.Held.{holds}
use Rattle.record.specs.declared.log.Log.{Log}
use Rattle.record.proofs.LogWhole.{holding}
use Rattle.visit.specs.Level.{reached, level_of, raised}

-- ---- what is false is not true

pub not-both : {b : Bool} → b ≡ true → b ≡ false → ⊥
not-both e f = let z : ◌≡◌ {A = Bool} true false = sym e ∙ f in let w : ◌≡◌ {A = ℕ} 0 1 = cc in omega arith

pub neither : (a b : Bool) → a || b ≡ false → (a ≡ false) × (b ≡ false)
neither true b e = absurd (not-both refl e)
neither false b e = (refl, e)

-- ---- as far as a test goes

pub record Reached (has : ℕ → Bool) (most level top : ℕ) : Type 0 where
  pub low : level ≤ top
  pub high : top ≤ level + most
  -- all between pass
  pub passed : (n : ℕ) → level < n → n ≤ top → has n ≡ true
  -- it ends where the next does not pass, or at the most
  pub ended : top < level + most → has (suc top) ≡ false

pub reached-facts : (has : ℕ → Bool) (most level : ℕ) → Reached has most level (reached has most level)
unfolding reached
reached-facts has zero level = record { low = omega arith; high = omega arith; passed = λ n a b. absurd (omega arith); ended = λ h. absurd (omega arith) }
reached-facts has (suc most) level = go (has (suc level)) refl (reached-facts has most (suc level))
  where
    go : (b : Bool) → has (suc level) ≡ b → Reached has most (suc level) (reached has most (suc level)) → Reached has (suc most) level (cond b (reached has most (suc level)) level)
    go false e rest = record { low = omega arith; high = omega arith; passed = λ n a b. absurd (omega arith); ended = λ h. e }
    go true e rest =
        record {
          low = omega (arith, rest.low);
          high = omega (arith, rest.high);
          passed = λ n a b. elim (ℕ_discrete n (suc level)) [
            | yes q ↦ rw q e
            | no q ↦ rest.passed n (omega arith) b
          ];
          ended = λ h. rest.ended (omega arith);
        }

-- nothing above b passes
pub reached-most : (has : ℕ → Bool) (most level b : ℕ) → level ≤ b → ((n : ℕ) → has n ≡ true → n ≤ b) → reached has most level ≤ b
reached-most has most level b low above =
    let facts = reached-facts has most level in
    elim (ℕ_discrete (reached has most level) level) [
      | yes q ↦ omega arith
      | no q ↦ above (reached has most level) (facts.passed (reached has most level) (omega (arith, facts.low)) (omega arith))
    ]

pub reached-next : (has : ℕ → Bool) (most level b : ℕ) → b ≤ level + most → ((n : ℕ) → has n ≡ true → n ≤ b) → has (suc (reached has most level)) ≡ false
reached-next has most level b fits above = go (has (suc (reached has most level))) refl
  where
    go : (x : Bool) → has (suc (reached has most level)) ≡ x → has (suc (reached has most level)) ≡ false
    go false e = e
    go true e =
        let inside = above (suc (reached has most level)) e in
        (reached-facts has most level).ended (omega arith)

-- ---- the log's level

module _ (l : Log) where
  pub level-low : l.level.0 ≤ level_of l
  unfolding level_of
  level-low = (reached-facts (holds l) most_held l.level.0).low

  pub level-held : (n : ℕ) → l.level.0 < n → n ≤ level_of l → holds l n ≡ true
  unfolding level_of
  level-held n low high = (reached-facts (holds l) most_held l.level.0).passed n low high

  pub level-most : (b : ℕ) → l.level.0 ≤ b → ((n : ℕ) → holds l n ≡ true → n ≤ b) → level_of l ≤ b
  unfolding level_of
  level-most b low above = reached-most (holds l) most_held l.level.0 b low above

  pub level-next : l.safe.0 ≤ l.level.0 → holds l (suc (level_of l)) ≡ false
  unfolding level_of
  level-next low = reached-next (holds l) most_held l.level.0 (l.safe.0 + most_held) (omega arith) (λ n h. (holding l n h).high)

-- ---- the log with its level risen holds what it held

pub raised-level : (l : Log) → (raised l).level.0 ≡ level_of l
unfolding raised
raised-level l = refl

pub raised-holds : (l : Log) (n : ℕ) → holds (raised l) n ≡ holds l n
unfolding raised holds
raised-holds l n = refl

pub raised-next : (l : Log) → l.safe.0 ≤ l.level.0 → holds (raised l) (suc (raised l).level.0) ≡ false
raised-next l low = raised-holds l (suc (raised l).level.0) ∙ rw raised-level (level-next l low)

-- all from above a mark to the level are held, if they were up to the level before
pub raised-run : (l : Log) (mark : ℕ)
    → ((n : ℕ) → mark < n → n ≤ l.level.0 → holds l n ≡ true)
    → (n : ℕ)
    → mark < n
    → n ≤ (raised l).level.0
    → holds (raised l) n ≡ true
raised-run l mark before n above below =
    let top : n ≤ level_of l = omega (arith, raised-level l) in
    raised-holds l n
    ∙ elim (dec_lt l.level.0 n) [
      | yes h ↦ level-held l n h top
      | no h ↦ before n above (omega arith)
    ]
