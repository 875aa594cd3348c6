-- The outcome fixes the answer; its refusal's number says whether the call was taken.
use Prim.Native.Nat.{ℕ}
use mathlib.Core.Path.{◌≡◌, refl, sym, ap, ◌∙◌}
use mathlib.Core.Bool.{cond}
use borrow.Author.Tests.{ne_eqb}
use lib.Dec.{eqb}
use Rattle.std.specs.Prelude.{Result, Ok, Err}
use Rattle.station.specs.Refusal.{refusal_number}
use Rattle.station.specs.Answer.{outcome_of, TakenByNumber, OutcomeFixes}
use Rattle.station.specs.declared.refusal.Refusal.{Refusal}
use Rattle.station.specs.declared.refusal.Refusal.TheVariants.{NoRoom, NotWhole, MemberCount, BadIds, NotAmong, BadRing, LongContent, OtherService, PostsFull, WrongLength, OtherKind, Malformed, OtherRing, NotMember, OtherAddressee, OldToken, LastToken, BelowHeld, NothingToResend}
use Rattle.station.specs.declared.answer.Answer.{Answer}
use Rattle.station.specs.declared.answer.Answer.TheVariants.{Founded, Posted, Kept, Had, Ahead, Accepted, Resent}
use Rattle.station.specs.declared.answer.Outcome.{Outcome}
use Rattle.station.proofs.RefusalLaws.{some_number}

-- the refusal that a number is of
named : ℕ → Refusal
named n =
    cond (eqb n 1) NoRoom
    (cond (eqb n 2) NotWhole
    (cond (eqb n 3) MemberCount
    (cond (eqb n 4) BadIds
    (cond (eqb n 5) NotAmong
    (cond (eqb n 6) BadRing
    (cond (eqb n 7) LongContent
    (cond (eqb n 8) OtherService
    (cond (eqb n 9) PostsFull
    (cond (eqb n 10) WrongLength
    (cond (eqb n 11) OtherKind
    (cond (eqb n 12) Malformed
    (cond (eqb n 13) OtherRing
    (cond (eqb n 14) NotMember
    (cond (eqb n 15) OtherAddressee
    (cond (eqb n 16) OldToken
    (cond (eqb n 17) LastToken
    (cond (eqb n 18) BelowHeld
    NothingToResend)))))))))))))))))

named-number : (why : Refusal) → named (refusal_number why) ≡ why
unfolding named
named-number NoRoom = refl
named-number NotWhole = refl
named-number MemberCount = refl
named-number BadIds = refl
named-number NotAmong = refl
named-number BadRing = refl
named-number LongContent = refl
named-number OtherService = refl
named-number PostsFull = refl
named-number WrongLength = refl
named-number OtherKind = refl
named-number Malformed = refl
named-number OtherRing = refl
named-number NotMember = refl
named-number OtherAddressee = refl
named-number OldToken = refl
named-number LastToken = refl
named-number BelowHeld = refl
named-number NothingToResend = refl

-- the answer that an outcome is of
answer_of : Outcome → Result Answer Refusal
answer_of o =
    cond (eqb o.outcome 0) (Err (named o.refusal))
    (cond (eqb o.outcome 1) (Ok Founded)
    (cond (eqb o.outcome 2) (Ok Posted)
    (cond (eqb o.outcome 3) (Ok (Kept o.deliveries))
    (cond (eqb o.outcome 4) (Ok (Had o.deliveries))
    (cond (eqb o.outcome 5) (Ok (Ahead o.deliveries))
    (cond (eqb o.outcome 6) (Ok (Accepted o.frames o.deliveries o.deaf))
    (Ok (Resent o.frames))))))))

answer_back : (a : Result Answer Refusal) → answer_of (outcome_of a) ≡ a
unfolding answer_of
answer_back (Err why) = ap (λ (w : Refusal). Err w) (named-number why)
answer_back (Ok Founded) = refl
answer_back (Ok Posted) = refl
answer_back (Ok (Kept n)) = refl
answer_back (Ok (Had n)) = refl
answer_back (Ok (Ahead n)) = refl
answer_back (Ok (Accepted frames deliveries deaf)) = refl
answer_back (Ok (Resent n)) = refl

pub outcome-fixes : OutcomeFixes
outcome-fixes a b e = sym (answer_back a) ∙ ap answer_of e ∙ answer_back b

pub taken-by-number : TakenByNumber
taken-by-number (Err why) = sym (ne_eqb (refusal_number why) 0 (some_number why))
taken-by-number (Ok Founded) = refl
taken-by-number (Ok Posted) = refl
taken-by-number (Ok (Kept n)) = refl
taken-by-number (Ok (Had n)) = refl
taken-by-number (Ok (Ahead n)) = refl
taken-by-number (Ok (Accepted frames deliveries deaf)) = refl
taken-by-number (Ok (Resent n)) = refl
