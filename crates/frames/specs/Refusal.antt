-- The number that document 01 gives to each refusal, and what it says in words. [document 01, Questions at the door]
use Rattle.std.specs.Prelude.{ℕ, List, codes}
use Rattle.frames.specs.declared.refusal.Refusal.{Refusal}
use Rattle.frames.specs.declared.refusal.Refusal.TheVariants.{NoRoom, WrongLength, OtherKind, Malformed}

abbrev pub frame_refusal_number : Refusal → ℕ
frame_refusal_number NoRoom = 1
frame_refusal_number WrongLength = 10
frame_refusal_number OtherKind = 11
frame_refusal_number Malformed = 12

abbrev pub refusal_text : Refusal → List ℕ
refusal_text NoRoom = codes "no room for the frame"
refusal_text WrongLength = codes "under 10 bytes, or not as long as its length field says"
refusal_text OtherKind = codes "neither a message nor a token"
refusal_text Malformed = codes "something doesn't follow the layout"
