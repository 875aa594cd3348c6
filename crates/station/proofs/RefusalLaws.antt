-- No refusal's number is 0.
use mathlib.Core.Path.{◌≡◌}
use native.Mathlib.Omega.{arith}
use Rattle.station.specs.Refusal.{refusal_number}
use Rattle.station.specs.declared.refusal.Refusal.{Refusal}
use Rattle.station.specs.declared.refusal.Refusal.TheVariants.{NoRoom, NotWhole, MemberCount, BadIds, NotAmong, BadRing, LongContent, OtherService, PostsFull, WrongLength, OtherKind, Malformed, OtherRing, NotMember, OtherAddressee, OldToken, LastToken, BelowHeld, NothingToResend}

pub some_number : (why : Refusal) → refusal_number why ≡ 0 → ⊥
some_number NoRoom e = omega arith
some_number NotWhole e = omega arith
some_number MemberCount e = omega arith
some_number BadIds e = omega arith
some_number NotAmong e = omega arith
some_number BadRing e = omega arith
some_number LongContent e = omega arith
some_number OtherService e = omega arith
some_number PostsFull e = omega arith
some_number WrongLength e = omega arith
some_number OtherKind e = omega arith
some_number Malformed e = omega arith
some_number OtherRing e = omega arith
some_number NotMember e = omega arith
some_number OtherAddressee e = omega arith
some_number OldToken e = omega arith
some_number LastToken e = omega arith
some_number BelowHeld e = omega arith
some_number NothingToResend e = omega arith
