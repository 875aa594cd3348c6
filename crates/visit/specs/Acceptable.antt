-- What has been asked of a message before it is heard, and of a token before it is accepted. [document 01, Questions at the door: 2, 12 to 18]
use Rattle.std.specs.Prelude.{ℕ, ◌<◌, ◌≡◌, Bool, true, ◌&&◌, List, leb}
use Rattle.words.specs.Scan.{all_within}
use Rattle.frames.specs.Number.{most_number}
use Rattle.frames.specs.Message.{message_follows}
use Rattle.frames.specs.Token.{token_follows}
use Rattle.frames.specs.declared.message.Message.{Message}
use Rattle.frames.specs.declared.token.Token.{Token}
use Rattle.record.specs.Held.{held_numbers}
use Rattle.record.specs.Members.{is_member}
use Rattle.record.specs.Ring.{current, ids, this_ring, token_members}
use Rattle.record.specs.Whole.{whole}
use Rattle.record.specs.declared.log.Log.{Log}
use Rattle.record.specs.declared.Record.{Record}
use Rattle.visit.specs.Visit.{Visit, log, own}

-- 18. Is its highest at least the level and every number held here?
unfoldable pub covers_held : Log → ℕ → Bool
covers_held l highest = leb l.level.0 highest && all_within 1 highest (held_numbers l)

-- a message that passes 2 and 12 to 14
pub record Hearable (r : Record) (m : Message) (content : List ℕ) : Type 0 where
  pub whole_record : whole r ≡ true
  pub follows : message_follows m content ≡ true
  pub of_this_ring : this_ring (current r).ring.0 (ids (current r)) m.header ≡ true
  pub member : is_member (ids (current r)) m.sender ≡ true

-- a visit that passes 2 and 12 to 18
pub record Acceptable (v : Visit) : Type 0 where
  pub whole_record : whole v.rec ≡ true
  pub follows : token_follows v.token ≡ true
  pub of_this_ring : this_ring (log v).ring.0 (ids (log v)) v.token.header ≡ true
  pub members : token_members (ids (log v)) v.token ≡ true
  pub here : v.token.addressee ≡ own v
  pub newer : v.rec.turn.number.0 < v.token.number.0
  pub not_last : v.token.number.0 < most_number
  pub covers : covers_held (log v) v.token.highest.0 ≡ true

abbrev pub visit : Record → Token → Visit
visit r t = record { rec = r; token = t }
