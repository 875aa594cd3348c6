-- What is held: after a message, after many, after letting go; how far a level rises; what is due.
use Prim.Native.Nat.{ℕ, zero, suc, ◌+◌, ◌<◌, ◌≤◌}
use mathlib.Core.Path.{◌≡◌, refl, sym, ap, subst, ◌∙◌}
use mathlib.Core.Logic.{◌≢◌, ◌⊎◌, inl, inr, ⊎_elim}
use mathlib.Core.Bool.{Bool, true, false, not, ◌||◌, cond}
use mathlib.Core.List.{List, [], ◌∷◌, ◌++◌, append_assoc, append-nil}
use mathlib.Core.Option.{Option, none, some}
use borrow.Author.Tests.{leb-true, leb-false}
use native.Mathlib.Nat.{add-zero}
use native.Mathlib.Omega.{arith}
use lib.ListN.{length, get_elem?, take}
use lib.Dec.{leb}
use Rattle.ordering.specs.Lists.{Among}
use Rattle.ordering.specs.inner.Frame.{Message}
use Rattle.ordering.specs.inner.Station.{Store, given, put, put_all, release, reached, due, window, level_of}
use Rattle.ordering.specs.inner.Visit.{NumberedFrom}
use Rattle.ordering.proofs.Base.{eqb-cases, ltb-cases, leb-cases, none-some, take-one-more}

-- ---- held under a number

pub put-cases : (x : Message) (h : Store) (n : ℕ) → ((n ≡ x.number) × (put x h n ≡ some x)) ⊎ ((n ≢ x.number) × (put x h n ≡ h n))
unfolding put
put-cases x h n = ⊎_elim (λ w. inl (w.1, rw w.0)) (λ w. inr (w.1, rw w.0)) (eqb-cases n x.number)

pub release-cases : (safe : ℕ) (h : Store) (n : ℕ) → ((safe < n) × (release safe h n ≡ h n)) ⊎ ((n ≤ safe) × (release safe h n ≡ none))
unfolding release
release-cases safe h n = ⊎_elim (λ w. inl (w.1, rw w.0)) (λ w. inr (w.1, rw w.0)) (ltb-cases safe n)

pub data PutAll (from : ℕ) (xs : List Message) (h : Store) (n : ℕ) : Type 0 where
  new : (j : ℕ) (x : Message) → get_elem? xs j ≡ some x → n ≡ suc (from + j) → put_all xs h n ≡ some x → PutAll from xs h n
  old : (n ≤ from) ⊎ (from + length xs < n) → put_all xs h n ≡ h n → PutAll from xs h n

pub put-all-cases : (from : ℕ) (xs : List Message) (h : Store) (n : ℕ) → NumberedFrom from xs → PutAll from xs h n
unfolding put_all
put-all-cases from [] h n num = old (⊎_elim (λ w. inl w.1) (λ w. inr (omega (arith, w.1))) (leb-cases n from)) refl
put-all-cases from (x ∷ xs) h n num = go (put-all-cases (suc from) xs (put x h) n num.1)
  where
    go : PutAll (suc from) xs (put x h) n → PutAll from (x ∷ xs) h n
    go (new j y e at is) = new (suc j) y e (omega arith) is
    go (old (inr far) is) = ⊎_elim (λ w. absurd (omega (arith, w.0, num.0))) (λ w. old (inr (omega arith)) (is ∙ w.1)) (put-cases x h n)
    go (old (inl near) is) =
        ⊎_elim
        (λ w. new zero x refl (omega (arith, w.0, num.0)) (is ∙ w.1))
        (λ w. let d : n ≢ suc from = λ e. w.0 (e ∙ sym num.0) in old (inl (omega arith)) (is ∙ w.1))
        (put-cases x h n)

-- ---- numbers of a numbered list

pub numbered-at : (from : ℕ) (xs : List Message) (k : ℕ) (x : Message) → NumberedFrom from xs → get_elem? xs k ≡ some x → x.number ≡ suc (from + k)
numbered-at from [] k x num e = absurd (none-some e)
numbered-at from (y ∷ xs) zero x num e = let q : y ≡ x = cc in omega (arith, ap (λ z. z.number) q, num.0)
numbered-at from (y ∷ xs) (suc k) x num e = omega (arith, numbered-at (suc from) xs k x num.1 e)

-- ---- a level rises as far as everything is held

pub given-some : {A : Type 0} (o : Option A) → given o ≡ true → (x : A) × (o ≡ some x)
given-some none e = let z : ◌≡◌ {A = ℕ} 0 1 = cc in absurd (omega arith)
given-some (some x) e = (x, refl)

pub given-none : {A : Type 0} (o : Option A) → given o ≡ false → o ≡ none
given-none none e = refl
given-none (some x) e = let z : ◌≡◌ {A = ℕ} 0 1 = cc in absurd (omega arith)

pub record Reached (has : ℕ → Bool) (n level top : ℕ) : Type 0 where
  pub up : level ≤ top
  pub held : (k : ℕ) → level < k → k ≤ top → has k ≡ true
  pub stop : (has (suc top) ≡ false) ⊎ (top ≡ level + n)

pub reached-is : (has : ℕ → Bool) (n level : ℕ) → Reached has n level (reached has n level)
unfolding reached
reached-is has zero level = record { up = omega arith; held = λ k a b. absurd (omega arith); stop = inr (omega arith) }
reached-is has (suc n) level = go (has (suc level)) refl (reached-is has n (suc level))
  where
    go : (b : Bool) → has (suc level) ≡ b → Reached has n (suc level) (reached has n (suc level))
        → Reached has (suc n) level (cond (has (suc level)) (reached has n (suc level)) level)
    go false e r = rw e (record { up = omega arith; held = λ k a b. absurd (omega arith); stop = inl e })
    go true e r =
        rw e
        (record {
          up = omega (arith, r.up);
          held = λ k a b. ⊎_elim (λ w. subst (λ m. has m ≡ true) (sym w.1) e) (λ w. r.held k (omega (arith, w.1)) b) (eqb-cases k (suc level));
          stop = ⊎_elim inl (λ w. inr (omega arith)) r.stop;
        })

pub level-up : (h : Store) (level : ℕ) → level ≤ level_of h level
level-up h level = (reached-is (λ n. given (h n)) window level).up

-- what is held lies in the window above a mark that the level is not below: then the rise stops at a gap
pub record Rise (h : Store) (level top : ℕ) : Type 0 where
  pub up : level ≤ top
  pub filled : (k : ℕ) → level < k → k ≤ top → (x : Message) × (h k ≡ some x)
  pub gap : h (suc top) ≡ none

pub rise-is : (h : Store) (safe level : ℕ) → safe ≤ level → ((n : ℕ) (x : Message) → h n ≡ some x → n ≤ safe + window) → Rise h level (level_of h level)
rise-is h safe level low near = go (reached-is (λ n. given (h n)) window level)
  where
    top : ℕ
    top = level_of h level

    gone : (o : Option Message) → h (suc top) ≡ o → top ≡ level + window → h (suc top) ≡ none
    gone none e q = e
    gone (some x) e q = absurd (omega (arith, near (suc top) x e))

    go : Reached (λ n. given (h n)) window level top → Rise h level top
    go r =
        record {
          up = r.up;
          filled = λ k a b. given-some (h k) (r.held k a b);
          gap = ⊎_elim (λ e. given-none (h (suc top)) e) (λ q. gone (h (suc top)) refl q) r.stop;
        }

-- ---- what is due

-- why there is no more: none left, not held, or safe and above the mark
pub data Stopped (h : Store) (safe n d : ℕ) : Type 0 where
  enough : n ≡ 0 → Stopped h safe n d
  missing : h (suc d) ≡ none → Stopped h safe n d
  unsafe : safe ≤ d → Stopped h safe n d

module _ (h : Store) (safe : ℕ) where
  -- a law of what is due goes by two cases
  pub due-ind : (P : ℕ → ℕ → List Message → Type 0)
      → ((n d : ℕ) → Stopped h safe n d → P n d [])
      → ((n d : ℕ) (x : Message) (xs : List Message) → h (suc d) ≡ some x → (x.safe ≡ false) ⊎ (suc d ≤ safe) → P n (suc d) xs → P (suc n) d (x ∷ xs))
      → (n d : ℕ) → P n d (due h safe n d)
  unfolding due
  due-ind P stop more zero d = stop zero d (enough refl)
  due-ind P stop more (suc n) d = at (h (suc d)) refl (due-ind P stop more n (suc d))
    where
      deliver : (x : Message) → h (suc d) ≡ some x → (s l : Bool) → x.safe ≡ s → leb (suc d) safe ≡ l → P n (suc d) (due h safe n (suc d))
          → P (suc n) d (cond (not s || l) (x ∷ due h safe n (suc d)) [])
      deliver x e false l es el later = more n d x (due h safe n (suc d)) e (inl es) later
      deliver x e true true es el later = more n d x (due h safe n (suc d)) e (inr (leb-true (suc d) safe el)) later
      deliver x e true false es el later = stop (suc n) d (unsafe (omega (arith, leb-false (suc d) safe el)))

      at : (o : Option Message) → h (suc d) ≡ o → P n (suc d) (due h safe n (suc d))
          → P (suc n) d (elim o [ none ↦ [] | some x ↦ cond (not x.safe || leb (suc d) safe) (x ∷ due h safe n (suc d)) [] ])
      at none e later = stop (suc n) d (missing e)
      at (some x) e later = deliver x e x.safe (leb (suc d) safe) refl refl later

  -- at most n
  pub due-few : (n d : ℕ) → length (due h safe n d) ≤ n
  due-few = due-ind (λ n d xs. length xs ≤ n) (λ n d s. omega arith) (λ n d x xs e k l. omega arith)

  -- up to the safe mark, where everything is held as far as that
  pub due-safe : (top n d : ℕ) → ((k : ℕ) → d < k → k ≤ top → (x : Message) × (h k ≡ some x)) → top ≤ d + n → safe ≤ top → safe ≤ d + length (due h safe n d)
  due-safe top n d filled reach low =
      due-ind (λ n d xs. ((k : ℕ) → d < k → k ≤ top → (x : Message) × (h k ≡ some x)) → top ≤ d + n → safe ≤ d + length xs) stop more n d filled reach
    where
      stop : (n d : ℕ) → Stopped h safe n d → ((k : ℕ) → d < k → k ≤ top → (x : Message) × (h k ≡ some x)) → top ≤ d + n → safe ≤ d + 0
      stop n d (enough e) f a = omega arith
      stop n d (unsafe e) f a = omega arith
      stop n d (missing e) f a =
          ⊎_elim (λ w. omega (arith, w.1)) (λ w. absurd (none-some (sym e ∙ (f (suc d) (omega arith) (omega (arith, w.1))).1))) (leb-cases safe d)

      more : (n d : ℕ) (x : Message) (xs : List Message) → h (suc d) ≡ some x → (x.safe ≡ false) ⊎ (suc d ≤ safe)
          → (((k : ℕ) → suc d < k → k ≤ top → (x : Message) × (h k ≡ some x)) → top ≤ suc d + n → safe ≤ suc d + length xs)
          → ((k : ℕ) → d < k → k ≤ top → (x : Message) × (h k ≡ some x)) → top ≤ d + suc n → safe ≤ d + suc (length xs)
      more n d x xs e k later f a = omega (arith, later (λ m b c. f m (omega arith) c) (omega arith))

  -- one that is due is held under a number from d + 1 on; a safe one under a number up to the mark
  pub due-held : (x : Message) (n d : ℕ) → Among x (due h safe n d) → (k : ℕ) × (d < k) × (h k ≡ some x) × (x.safe ≡ true → k ≤ safe)
  due-held x =
      due-ind (λ n d xs. Among x xs → (k : ℕ) × (d < k) × (h k ≡ some x) × (x.safe ≡ true → k ≤ safe))
      (λ n d s nothing. absurd nothing)
      more
    where
      more : (n d : ℕ) (y : Message) (xs : List Message) → h (suc d) ≡ some y → (y.safe ≡ false) ⊎ (suc d ≤ safe)
          → (Among x xs → (k : ℕ) × (suc d < k) × (h k ≡ some x) × (x.safe ≡ true → k ≤ safe))
          → (x ≡ y) ⊎ Among x xs → (k : ℕ) × (d < k) × (h k ≡ some x) × (x.safe ≡ true → k ≤ safe)
      more n d y xs e (inl k) later (inl q) =
          (suc d, omega arith, cc, λ t. let z : true ≡ false = sym t ∙ ap (λ m. m.safe) q ∙ k in let w : ◌≡◌ {A = ℕ} 0 1 = cc in absurd (omega arith))
      more n d y xs e (inr k) later (inl q) = (suc d, omega arith, cc, λ t. k)
      more n d y xs e k later (inr m) = let r = later m in (r.0, omega (arith, r.1), r.2, r.3)

  -- in the order of a list that has what is held
  pub due-take : (xs : List Message) → ((k : ℕ) (x : Message) → h (suc k) ≡ some x → get_elem? xs k ≡ some x) → (n d : ℕ)
      → take d xs ++ due h safe n d ≡ take (d + length (due h safe n d)) xs
  due-take xs reads =
      due-ind (λ n d ys. take d xs ++ ys ≡ take (d + length ys) xs)
      (λ n d s. append-nil (take d xs) ∙ ap (λ k. take k xs) (sym (add-zero d)))
      (λ n d x ys e k later.
      let one : take (suc d) xs ≡ take d xs ++ (x ∷ []) = take-one-more xs d x (reads d x e) in
      let same : suc d + length ys ≡ d + suc (length ys) = omega arith in
      sym (append_assoc (take d xs) (x ∷ []) ys) ∙ ap (λ zs. zs ++ ys) (sym one) ∙ later ∙ ap (λ k. take k xs) same)
