-- The token that a visit writes, as ordering sees it, and that it may be resent.
use Prim.Native.Nat.{ℕ, suc, ◌-◌}
use mathlib.Core.Path.{◌≡◌, refl, sym, ap, ◌∙◌}
use mathlib.Core.Logic.{◌≢◌}
use mathlib.Core.Bool.{true}
use mathlib.Core.List.{List, [], ◌∷◌}
use mathlib.Core.Option.{Option, some}
use borrow.Author.Tests.{ne_eqb}
use native.Mathlib.Numerals.{add-one}
use native.Mathlib.Omega.{arith}
use lib.ListN.{length, get_or, take, replicate, length-append}
use lib.Seq.{take-append_seam}
use Rattle.words.specs.Run.{words_bytes}
use Rattle.frames.specs.Layout.{longest_token}
use Rattle.frames.specs.Token.{request_numbers, token_fixed, token_bytes}
use Rattle.frames.specs.declared.token.Token.{Token}
use Rattle.std.specs.Prelude.{Result}
use Rattle.frames.specs.declared.refusal.Refusal.{Refusal}
use Rattle.frames.specs.declared.reader.Frame.{Frame}
use Rattle.frames.proofs.Sizes.{token-fixed-length}
use Rattle.record.specs.Ring.{ids}
use Rattle.record.specs.Turn.{may_resend, remembered}
use Rattle.visit.specs.Visit.{Visit, log, own, next_in, token', turn', highest', aru', blocker'}
use Rattle.visit.specs.Acceptable.{Acceptable}
use Rattle.visit.proofs.TokenLaws.{token-reads}
use Rattle.ordering.specs.inner.Frame as seen
use Rattle.ordering.specs.inner.Visit as visit
use Rattle.ring.proofs.seen.View.{seen_blocker, seen_token, token_by, token_in, resendable_of, station_seen}
use Rattle.ring.proofs.seen.VisitMarks.{chosen, highest-after, aru-after, blocker-after}

-- ---- the next member

next-same : (first : ℕ) (members : List ℕ) (own : ℕ) → next_in first members own ≡ visit.next_in first members own
unfolding next_in visit.next_in
next-same first [] own = refl
next-same first (x ∷ members) own = rw (next-same first members own)

-- ---- a token's bytes are some

pub token-some : (t : Token) → length (token_bytes t) ≢ 0
token-some t e = omega (arith, length-append (token_fixed t) (words_bytes 4 (take t.count (request_numbers t))), token-fixed-length t)

token-same : (number number' addressee addressee' highest highest' aru aru' : ℕ) (blocker blocker' : Option ℕ) (text : List ℕ)
    → number ≡ number'
    → addressee ≡ addressee'
    → highest ≡ highest'
    → aru ≡ aru'
    → blocker ≡ blocker'
    → ◌≡◌ {A = seen.Token}
    (record { number = number; addressee = addressee; highest = highest; aru = aru; blocker = blocker; text = text })
    (record { number = number'; addressee = addressee'; highest = highest'; aru = aru'; blocker = blocker'; text = text })
token-same number number' addressee addressee' highest highest' aru aru' blocker blocker' text e₁ e₂ e₃ e₄ e₅ = rw (e₁, e₂, e₃, e₄, e₅)

module _ (v : Visit) (ok : Acceptable v) (frame : List ℕ) where
  abbrev after : seen.Token
  after = visit.token_after (station_seen v.rec) (seen_token v.token frame) (chosen v)

  number-after : (token' v).number.0 ≡ suc v.token.number.0
  unfolding token'
  number-after = add-one v.token.number.0

  addressee-after : (token' v).addressee ≡ visit.next (ids (log v)) (own v)
  unfolding token'
  addressee-after = next-same (get_or (ids (log v)) 0 0) (ids (log v)) (own v)

  high_after : (token' v).highest.0 ≡ visit.highest_after (station_seen v.rec) (seen_token v.token frame) (chosen v)
  unfolding token'
  high_after = sym (highest-after v ok frame)

  low-after : (token' v).aru.0 ≡ visit.aru_after (station_seen v.rec) (seen_token v.token frame) (chosen v)
  unfolding token'
  low-after = sym (aru-after v ok frame)

  by_after : seen_blocker (token' v).blocker ≡ visit.blocker_after (station_seen v.rec) (seen_token v.token frame) (chosen v)
  unfolding token'
  by_after = sym (blocker-after v ok frame)

  values-after : seen_token (token' v) (token_bytes (token' v)) ≡ after
  unfolding visit.token_after station_seen
  values-after = token-same _ _ _ _ _ _ _ _ _ _ (token_bytes (token' v)) number-after addressee-after high_after low-after by_after

  -- the token in its bytes
  pub token-after : token_in (token_bytes (token' v)) ≡ after
  token-after = ap (λ (r : Result Frame Refusal). token_by (token_bytes (token' v)) r) (token-reads v ok) ∙ values-after

  -- ---- it may be resent

  remembers : remembered (turn' v) ≡ token_bytes (token' v)
  unfolding turn'
  remembers = take-append_seam (token_bytes (token' v)) (replicate (longest_token - length (token_bytes (token' v))) 0)

  is-resendable : may_resend (turn' v) ≡ true
  unfolding turn'
  is-resendable = rw (ne_eqb (length (token_bytes (token' v))) 0 (token-some (token' v)))

  pub resendable-after : resendable_of (turn' v) ≡ some after
  unfolding resendable_of
  resendable-after = rw (is-resendable, remembers, token-after)
