-- A list of calls in parts.
use Prim.Native.Nat.{ℕ}
use mathlib.Core.Path.{◌≡◌, refl, sym, subst}
use mathlib.Core.List.{List, [], ◌∷◌, ◌++◌, map}
use mathlib.Core.Logic.{inl, inr}
use mathlib.Core.Option.{some}
use lib.ListN.{length}
use Rattle.frames.specs.declared.header.Header.{Header}
use Rattle.record.specs.declared.Record.{Record}
use Rattle.ordering.specs.inner.Frame as seen
use Rattle.ordering.proofs.Base.{first-stays}
use Rattle.ordering.specs.inner.Run as ordered
use Rattle.ring.specs.Calls.{Call, station_of, reply_to}
use Rattle.ring.specs.History.{Written, written_at, written_by, written_in, is_numbered, reading}
use Rattle.ring.specs.Run.{Ring, first_frame, start, step, run, account_of, structs}
use Rattle.ring.specs.Demand.{CanAfter, AcceptedIn}
use Rattle.ring.proofs.runs.Going.{Possible, AcceptedIn as Accepts}

-- ---- running, and what may be called

pub run_join : (s : Ring Record) (xs ys : List Call) → run structs s (xs ++ ys) ≡ run structs (run structs s xs) ys
unfolding run
run_join s [] ys = refl
run_join s (c ∷ xs) ys = run_join (step structs s c) xs ys

pub possible-first : (size : ℕ) (first : List ℕ) (s : Ring Record) (xs ys : List Call) → Possible size first s (xs ++ ys) → Possible size first s xs
possible-first size first s [] ys h = tt
possible-first size first s (c ∷ xs) ys h = (h.0, h.1, possible-first size first (step structs s c) xs ys h.2)

pub possible-rest : (size : ℕ) (first : List ℕ) (s : Ring Record) (xs ys : List Call) → Possible size first s (xs ++ ys) → Possible size first (run structs s xs) ys
unfolding run
possible-rest size first s [] ys h = h
possible-rest size first s (c ∷ xs) ys h = possible-rest size first (step structs s c) xs ys h.2

-- ---- the same for calls as ordering sees them

pub run-join-seen : (o : ordered.Ring) (xs ys : List ordered.Call) → ordered.run o (xs ++ ys) ≡ ordered.run (ordered.run o xs) ys
unfolding ordered.run
run-join-seen o [] ys = refl
run-join-seen o (c ∷ xs) ys = run-join-seen (ordered.step o c) xs ys

pub possible-join : (size : ℕ) (first : seen.Token) (o : ordered.Ring) (xs ys : List ordered.Call)
    → ordered.AllPossible size first o xs
    → ordered.AllPossible size first (ordered.run o xs) ys
    → ordered.AllPossible size first o (xs ++ ys)
unfolding ordered.run
possible-join size first o [] ys h k = k
possible-join size first o (c ∷ xs) ys h k = (h.0, possible-join size first (ordered.step o c) xs ys h.1 k)

-- ---- a reading stays the reading

reading-next : (ring : Header) (s : Ring Record) (c : Call) (n : ℕ) (w : Written) → reading ring s.history n ≡ some w → reading ring (step structs s c).history n ≡ some w
unfolding reading step written_in
reading-next ring s c n w e =
    first-stays (λ v. is_numbered ring n v.frame) (written_in s.history) (map (written_at (station_of c)) (written_by (record { call = c; reply = reply_to (s.at (station_of c)) c }))) w e

pub reading-stays : (ring : Header) (s : Ring Record) (cs : List Call) (n : ℕ) (w : Written) → reading ring s.history n ≡ some w → reading ring (run structs s cs).history n ≡ some w
unfolding run
reading-stays ring s [] n w e = e
reading-stays ring s (c ∷ cs) n w e = reading-stays ring (step structs s c) cs n w (reading-next ring s c n w e)

-- ---- an account's words, by the ring that the calls before left

module _ (members : List ℕ) (ring : ℕ) (founded : ℕ → Record) where
  abbrev after : List Call → Ring Record
  after calls = run structs (start founded) calls

  after_one : (before : List Call) (c : Call) → after (before ++ (c ∷ [])) ≡ step structs (after before) c
  unfolding run
  after_one before c = run_join (start founded) before (c ∷ [])

  pub possible-after : (before cs : List Call) → CanAfter members ring (account_of structs founded) before cs → Possible (length members) (first_frame members ring) (after before) cs
  possible-after before [] h = tt
  possible-after before (c ∷ cs) h =
      (h.0, h.1, subst (λ s. Possible (length members) (first_frame members ring) s cs) (after_one before c) (possible-after (before ++ (c ∷ [])) cs h.2))

  pub can-after : (before cs : List Call) → Possible (length members) (first_frame members ring) (after before) cs → CanAfter members ring (account_of structs founded) before cs
  can-after before [] h = tt
  can-after before (c ∷ cs) h =
      (h.0, h.1, can-after (before ++ (c ∷ [])) cs (subst (λ s. Possible (length members) (first_frame members ring) s cs) (sym (after_one before c)) h.2))

  pub accepts-after : (p : ℕ) (before cs : List Call) → AcceptedIn members ring (account_of structs founded) p before cs → Accepts p (after before) cs
  accepts-after p before [] h = elim h [ ]
  accepts-after p before (c ∷ cs) (inl h) = inl h
  accepts-after p before (c ∷ cs) (inr h) = inr (subst (λ s. Accepts p s cs) (after_one before c) (accepts-after p (before ++ (c ∷ [])) cs h))
