-- The number that document 01 gives to each refusal of a call, and what it says in words. [document 01, Questions at the door]
use Rattle.std.specs.Prelude.{ℕ, List, codes}
use Rattle.station.specs.declared.refusal.Refusal.{Refusal}
use Rattle.station.specs.declared.refusal.Refusal.TheVariants.{NoRoom, NotWhole, MemberCount, BadIds, NotAmong, BadRing, LongContent, OtherService, PostsFull, WrongLength, OtherKind, Malformed, OtherRing, NotMember, OtherAddressee, OldToken, LastToken, BelowHeld, NothingToResend}

abbrev pub refusal_number : Refusal → ℕ
refusal_number NoRoom = 1
refusal_number NotWhole = 2
refusal_number MemberCount = 3
refusal_number BadIds = 4
refusal_number NotAmong = 5
refusal_number BadRing = 6
refusal_number LongContent = 7
refusal_number OtherService = 8
refusal_number PostsFull = 9
refusal_number WrongLength = 10
refusal_number OtherKind = 11
refusal_number Malformed = 12
refusal_number OtherRing = 13
refusal_number NotMember = 14
refusal_number OtherAddressee = 15
refusal_number OldToken = 16
refusal_number LastToken = 17
refusal_number BelowHeld = 18
refusal_number NothingToResend = 19

abbrev pub refusal_text : Refusal → List ℕ
refusal_text NoRoom = codes "a lent buffer is too small"
refusal_text NotWhole = codes "the record isn't whole"
refusal_text MemberCount = codes "fewer than 2 members or more than 8"
refusal_text BadIds = codes "an id is 0 or stands twice, or the first isn't the lowest"
refusal_text NotAmong = codes "the own id isn't among the members"
refusal_text BadRing = codes "the ring number is out of range"
refusal_text LongContent = codes "the content is longer than 64 bytes"
refusal_text OtherService = codes "the service is neither 0 nor 1"
refusal_text PostsFull = codes "16 posts wait"
refusal_text WrongLength = codes "the frame is shorter than its header, or its length isn't exact"
refusal_text OtherKind = codes "the kind is neither 1 nor 2"
refusal_text Malformed = codes "the frame doesn't follow the layout"
refusal_text OtherRing = codes "another ring's number or representative"
refusal_text NotMember = codes "an id in it is no member's"
refusal_text OtherAddressee = codes "the token is addressed to another station"
refusal_text OldToken = codes "the token's number isn't above the last forwarded"
refusal_text LastToken = codes "the token's number is the last that there is"
refusal_text BelowHeld = codes "the token's highest is below the level, or below a number held here"
refusal_text NothingToResend = codes "there is no token that may be resent"
