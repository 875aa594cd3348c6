-- What holds of every reply. [document 01, The station record; Questions at the door]
use Rattle.std.specs.Prelude.{ℕ, ◌≡◌, Bool, true, List, [], ◌∷◌, ◌++◌, length, Ok, Err}
use Rattle.record.specs.Posts.{waiting}
use Rattle.record.specs.Whole.{whole}
use Rattle.record.specs.declared.Record.{Record}
use Rattle.station.specs.Answer.{outcome_of}
use Rattle.station.specs.Reply.{Reply, refused}
use Rattle.station.specs.Found.{founded}
use Rattle.station.specs.Post.{posted}
use Rattle.station.specs.Resend.{resent}
use Rattle.station.specs.declared.refusal.Refusal.{Refusal}
use Rattle.station.specs.declared.answer.Answer.TheVariants.{Founded, Posted}

-- a reply that refuses has the record as it was and no bytes, so `followed_by` leaves every lent byte
abbrev pub LeavesAll : Record → Reply → Type 0
LeavesAll r reply = (why : Refusal) → reply.answer ≡ Err why → reply ≡ refused r why

-- the output counts are those of the reply's bytes
abbrev pub Counted : Reply → Type 0
Counted reply = ((outcome_of reply.answer).frames ≡ length reply.frames) × ((outcome_of reply.answer).deliveries ≡ length reply.deliveries)

-- a whole record stays whole
abbrev pub KeepsWhole : Record → Reply → Type 0
KeepsWhole r reply = whole r ≡ true → whole reply.rec ≡ true

abbrev pub Good : Record → Reply → Type 0
Good r reply = LeavesAll r reply × Counted reply × KeepsWhole r reply

-- ---- of each call

abbrev pub FoundedGood : Type 0
FoundedGood = (r : Record) (room : Bool) (ids : List ℕ) (own ring : ℕ) → Good r (founded r room ids own ring)

abbrev pub PostedGood : Type 0
PostedGood = (r : Record) (service : ℕ) (content : List ℕ) → Good r (posted r service content)

abbrev pub ResentGood : Type 0
ResentGood = (r : Record) (room : ℕ) → Good r (resent r room)

-- founding's record is whole, whatever was there before
abbrev pub FoundedWhole : Type 0
FoundedWhole = (r : Record) (room : Bool) (ids : List ℕ) (own ring : ℕ) → (founded r room ids own ring).answer ≡ Ok Founded → whole (founded r room ids own ring).rec ≡ true

-- posting adds exactly one post, at the end
abbrev pub PostedOne : Type 0
PostedOne = (r : Record) (service : ℕ) (content : List ℕ)
    → (posted r service content).answer ≡ Ok Posted
    → waiting (posted r service content).rec.posts ≡ waiting r.posts ++ (record { service = service; content = content } ∷ [])
