-- What a visit writes for the cable, as ordering sees it, and that ordering allows its choice.
use Prim.Native.Nat.{ℕ, zero, suc, ◌+◌}
use mathlib.Core.Path.{◌≡◌, refl, sym, ap, ◌∙◌}
use mathlib.Core.Logic.{inl, inr}
use mathlib.Core.Bool.{Bool, true, or-true}
use mathlib.Core.List.{List, [], ◌∷◌, ◌++◌, map, map-append}
use mathlib.Core.Option.{some}
use borrow.Author.Tests.{eq-eqb}
use native.Mathlib.Omega.{arith}
use Rattle.frames.specs.Token.{token_bytes}
use Rattle.frames.specs.declared.header.Header.{Header}
use Rattle.record.specs.declared.log.Log.{Log}
use Rattle.visit.specs.Deliver.{ring_header, frame_of}
use Rattle.visit.specs.Visit.{Visit, log, repeats, new_count, new_numbers, log_now, token', written}
use Rattle.record.specs.Count.{numbers_after}
use Rattle.visit.specs.Reads.{Each, HeldReads}
use Rattle.visit.specs.Acceptable.{Acceptable}
use Rattle.visit.proofs.EachLaws.{each_append}
use Rattle.visit.proofs.VisitFacts.{new-window, now-ring}
use Rattle.visit.proofs.TokenLaws.{token-reads}
use Rattle.visit.proofs.VisitReads.{visit-reads}
use Rattle.ordering.specs.Lists.{Among}
use Rattle.ordering.specs.inner.Frame as seen
use Rattle.ordering.specs.inner.Visit as visit
use Rattle.ordering.specs.inner.Visit.{NumberedFrom, Allowed}
use Rattle.ring.specs.History.{is_token_numbered, any_of}
use Rattle.ring.specs.Newest.{last_of}
use Rattle.ring.proofs.seen.View.{seen_token, store_of, station_seen, frame_seen}
use Rattle.ring.proofs.seen.Law.{Rewrites}
use Rattle.ring.proofs.seen.StoreLaws.{message_held, store-held}
use Rattle.ring.proofs.seen.FrameLaws.{held-frame, held-rewrites, frame-token, token-rewrites}
use Rattle.ring.proofs.seen.VisitMarks.{chosen, new-count}
use Rattle.ring.proofs.seen.VisitToken.{token-after}

-- ---- frames of held messages

module _ (l : Log) where
  all_seen : (ring : Header) → ring ≡ ring_header l → (ns : List ℕ) → Each (HeldReads l) ns → map (frame_seen ring) (map (frame_of l) ns) ≡ map seen.message (map (message_held l) ns)
  all_seen ring e [] all = refl
  all_seen ring e (n ∷ ns) all = rw (held-frame l n all.0 ring e, all_seen ring e ns all.1)

  all-rewrite : (ns : List ℕ) → Each (HeldReads l) ns → Each Rewrites (map (frame_of l) ns)
  all-rewrite [] all = tt
  all-rewrite (n ∷ ns) all = (held-rewrites l n all.0, all-rewrite ns all.1)

  -- a message of those is held
  among-held : (ns : List ℕ) → Each (HeldReads l) ns → (x : seen.Message) → Among x (map (message_held l) ns) → (n : ℕ) × (store_of l n ≡ some x)
  among-held [] all x there = absurd there
  among-held (n ∷ ns) all x (inl e) = (n, store-held l n all.0.0 ∙ ap some (sym e))
  among-held (n ∷ ns) all x (inr there) = among-held ns all.1 x there

  numbered : (highest k : ℕ) → NumberedFrom highest (map (message_held l) (numbers_after highest k))
  unfolding numbers_after
  numbered highest zero = tt
  numbered highest (suc k) = (refl, numbered (suc highest) k)

-- ---- a list with its last element

pub last-of : (first : List ℕ) (xs : List (List ℕ)) (x : List ℕ) → last_of first (xs ++ (x ∷ [])) ≡ x
last-of first [] x = refl
last-of first (y ∷ xs) x = last-of y xs x

any_last : (test : List ℕ → Bool) (xs : List (List ℕ)) (x : List ℕ) → test x ≡ true → any_of test (xs ++ (x ∷ [])) ≡ true
unfolding any_of
any_last test [] x e = rw e
any_last test (y ∷ xs) x e = rw (any_last test xs x e) (or-true (test y))

-- ---- a visit

module _ (v : Visit) (ok : Acceptable v) where
  abbrev messages : List (List ℕ)
  messages = map (frame_of (log v)) (repeats v) ++ map (frame_of (log_now v)) (new_numbers v)

  -- the token is written last
  written_last : written v ≡ messages ++ (token_bytes (token' v) ∷ [])
  unfolding written
  written_last = refl

  pub last_written : last_of [] (written v) ≡ token_bytes (token' v)
  last_written = rw written_last (last-of [] messages (token_bytes (token' v)))

  numbered-there : is_token_numbered (v.token.number.0 + 1) (token_bytes (token' v)) ≡ true
  unfolding is_token_numbered token'
  numbered-there = rw (token-reads v ok) (eq-eqb (v.token.number.0 + 1) (v.token.number.0 + 1) refl)

  -- the answer writes the token with the next number
  pub next-written : any_of (is_token_numbered (v.token.number.0 + 1)) (written v) ≡ true
  next-written = rw written_last (any_last (is_token_numbered (v.token.number.0 + 1)) messages (token_bytes (token' v)) numbered-there)

  pub rewrites : Each Rewrites (written v)
  unfolding written
  rewrites =
      each_append Rewrites messages (token_bytes (token' v) ∷ [])
      (each_append Rewrites (map (frame_of (log v)) (repeats v)) (map (frame_of (log_now v)) (new_numbers v))
      (all-rewrite (log v) (repeats v) (visit-reads v ok).repeated)
      (all-rewrite (log_now v) (new_numbers v) (visit-reads v ok).sent))
      (token-rewrites (token_bytes (token' v)) (token' v) (token-reads v ok), tt)

  module _ (frame : List ℕ) where
    pub written_after : map (frame_seen (ring_header (log v))) (written v) ≡ visit.visit_writes (station_seen v.rec) (seen_token v.token frame) (chosen v)
    unfolding written visit.visit_writes
    written_after =
        let ring = ring_header (log v) in
        let f = frame_seen ring in
        map-append f messages (token_bytes (token' v) ∷ [])
        ∙ rw (
          map-append f (map (frame_of (log v)) (repeats v)) (map (frame_of (log_now v)) (new_numbers v)),
          all_seen (log v) ring refl (repeats v) (visit-reads v ok).repeated,
          all_seen (log_now v) ring (sym (now-ring v ok)) (new_numbers v) (visit-reads v ok).sent,
          frame-token ring (token_bytes (token' v)) (token' v) (token-reads v ok),
          token-after v ok frame,
        )

    pub allowed : Allowed (station_seen v.rec) (seen_token v.token frame) (chosen v)
    unfolding station_seen new_numbers
    allowed =
        record {
          repeats = among-held (log v) (repeats v) (visit-reads v ok).repeated;
          added = numbered (log_now v) v.token.highest.0 (new_count v);
          few = omega (arith, new-count v ok frame, new-window v);
        }
