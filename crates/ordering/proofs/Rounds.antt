-- What everybody has received is delivered everywhere three rounds later.
use Prim.Native.Nat.{ℕ, zero, suc, ◌<◌, ◌≤◌}
use mathlib.Core.Path.{◌≡◌, refl, sym, ap, subst, ◌∙◌}
use mathlib.Core.Logic.{inr, ⊎_elim}
use mathlib.Core.List.{List, ◌++◌}
use mathlib.Core.Option.{Option, none, some}
use native.Mathlib.Omega.{arith}
use lib.ListN.{length}
use Rattle.ordering.specs.Lists.{Among, Distinct}
use Rattle.ordering.specs.inner.Frame.{Message, Token, message}
use Rattle.ordering.specs.inner.History.{Written, written_at, newest, reading, handed_at}
use Rattle.ordering.specs.inner.Run.{Ring, Call, run, start, founding_token, AllPossible, AcceptedIn}
use Rattle.ordering.specs.inner.Demand.{Delivered, Round, after}
use Rattle.ordering.proofs.Base.{some_same, leb-cases, at-given, among-at}
use Rattle.ordering.proofs.Cable.{reading-found}
use Rattle.ordering.proofs.Ids.{id_of}
use Rattle.ordering.proofs.Inv.{Inv}
use Rattle.ordering.proofs.Keep.{inv-run, run-append, possible-append, reachable}
use Rattle.ordering.proofs.Live.{level-reached, reading-run, kept_run, until, High, Blocked, Said, Known, Safe, blocked-kept, said-kept, said-brings, known_kept, known-brings, safe-kept, safe-brings}

-- ---- three rounds

module _ (members : List ℕ) (first : Token) (distinct : Distinct members) (m : ℕ) where
  abbrev All : Ring → List Call → Type 0
  All r cs = (p : ℕ) → p < length members → AcceptedIn p r cs

  -- one: the newest aru is at least m
  round-one : (r : Ring) (cs : List Call) → AllPossible (length members) first r cs → Inv members first r → All r cs → High members m r → Said members first m (run r cs)
  round-one r cs k i all high = ⊎_elim (λ w. keep w.1) (λ w. low w.1 i.blocker refl) (leb-cases m (newest first r.history).aru)
    where
      keep : m ≤ (newest first r.history).aru → Said members first m (run r cs)
      keep h = kept_run distinct (Said members first m) (said-kept distinct m) cs r k i (high, h)

      low : (newest first r.history).aru < m → (b : Option ℕ) → i.blocker ≡ b → Said members first m (run r cs)
      low h none e = absurd (omega (arith, i.rules.free e, i.rules.top i.turn i.rules.here, high i.turn i.rules.here))
      low h (some v) e =
          until distinct (Blocked members first m v) (Said members first m) v
          (blocked-kept distinct m v) (said-kept distinct m) (said-brings distinct m v (i.rules.placed v e))
          cs r k i (all v (i.rules.placed v e)) (high, inr (i.blocker-is ∙ ap (id_of members) e))

  -- two: so is the aru that each forwarded last
  round-two : (r : Ring) (cs : List Call) → AllPossible (length members) first r cs → Inv members first r → All r cs → Said members first m r
      → (p : ℕ) → p < length members → Known members first m p (run r cs)
  round-two r cs k i all said p h =
      until distinct (Said members first m) (Known members first m p) p
      (said-kept distinct m) (known_kept distinct m p) (known-brings distinct m p) cs r k i (all p h) said

  -- three: so is each safe mark
  round-three : (r : Ring) (cs : List Call) → AllPossible (length members) first r cs → Inv members first r → All r cs
      → (p : ℕ) → p < length members → Known members first m p r → Safe m p (run r cs)
  round-three r cs k i all p h known =
      until distinct (Known members first m p) (Safe m p) p
      (known_kept distinct m p) (safe-kept distinct m p) (safe-brings distinct m p) cs r k i (all p h) known

-- ---- a safe mark, so delivered

delivered-to : {members : List ℕ} {first : Token} {r : Ring} (i : Inv members first r) (p n : ℕ) (w : Written) (x : Message)
    → 1 ≤ n → n ≤ (r.at p).safe → reading r.history n ≡ some w → w.frame ≡ message x → Among x (handed_at p r.history)
delivered-to i p zero w x a b e f = absurd (omega arith)
delivered-to {r = r} i p (suc k) w x a b e f =
    let short : k < (r.at p).delivered = omega (arith, (i.each p).safe-delivered) in
    let g = at-given i.xs k (omega (arith, (i.each p).delivered-level, (i.each p).level-top)) in
    let q = (i.readings.reads k g.0 g.1).1 in
    let same : w ≡ written_at q.0 (message g.0) = some_same e q.1 in
    let is : x ≡ g.0 = (let z : message x ≡ message g.0 = sym f ∙ ap (λ v. v.frame) same in cc) in
    subst (λ ys. Among x ys) (sym (i.each p).handed) (among-at i.xs k (r.at p).delivered x (g.1 ∙ ap some (sym is)) short)

-- ---- the clause

module _ (members text : List ℕ) (distinct : Distinct members) (nonempty : 1 ≤ length members) where
  pub delivered : Delivered members text
  delivered before one two three k m received all₁ all₂ all₃ p n h a b =
      let first = founding_token members text in
      let r₀ = run (start members) before in
      let k₀ = possible-append (length members) first before (one ++ (two ++ three)) (start members) k in
      let k₁ = possible-append (length members) first one (two ++ three) r₀ k₀.1 in
      let r₁ = run r₀ one in
      let k₂ = possible-append (length members) first two three r₁ k₁.1 in
      let r₂ = run r₁ two in
      let r₃ = run r₂ three in
      let i₀ : Inv members first r₀ = reachable members text distinct nonempty before k₀.0 in
      let i₁ : Inv members first r₁ = inv-run distinct one r₀ k₁.0 i₀ in
      let i₂ : Inv members first r₂ = inv-run distinct two r₁ k₂.0 i₁ in
      let i₃ : Inv members first r₃ = inv-run distinct three r₂ k₂.1 i₂ in
      let e₁ : after members text (before ++ one) ≡ r₁ = run-append before one (start members) in
      let e₂ : after members text (before ++ (one ++ two)) ≡ r₂ = run-append before (one ++ two) (start members) ∙ run-append one two r₀ in
      let e₃ : after members text (before ++ (one ++ (two ++ three))) ≡ r₃ =
      run-append before (one ++ (two ++ three)) (start members) ∙ run-append one (two ++ three) r₀ ∙ run-append two three r₁ in
      let high : High members m r₀ = λ q hq. level-reached i₀ q m (λ j c d. received q j hq c d) in
      let said = round-one members first distinct m r₀ one k₁.0 i₀ all₁ high in
      let known = round-two members first distinct m r₁ two k₂.0 i₁ (subst (λ r. Round members text r two) e₁ all₂) said in
      let safe = round-three members first distinct m r₂ three k₂.1 i₂ (subst (λ r. Round members text r three) e₂ all₃) p h (known p h) in
      let got = received p n h a b in
      let found = reading-found r₀.history n got.first got.is in
      let later : reading r₃.history n ≡ some got.first = reading-run three r₂ n got.first (reading-run two r₁ n got.first (reading-run one r₀ n got.first got.is)) in (
        found.content,
        got.first,
        got.is,
        found.frame,
        subst (λ r. Among found.content (handed_at p r.history)) (sym e₃) (delivered-to i₃ p n got.first found.content a (omega arith) later found.frame),
      )
