-- Is it this ring's, and are they its members? [document 01, Questions at the door, 13 and 14]
use Rattle.std.specs.Prelude.{ℕ, Bool, true, false, ◌&&◌, List, take, eqb, Option, Some, None, Result, Ok, Err}
use Rattle.frames.specs.Read.{read_of}
use Rattle.frames.specs.declared.header.Header.{Header}
use Rattle.frames.specs.declared.token.Token.{Token}
use Rattle.frames.specs.declared.refusal.Refusal.{Refusal}
use Rattle.frames.specs.declared.reader.Frame.{Frame}
use Rattle.frames.specs.declared.reader.Frame.TheVariants.{Message as IsMessage, Token as IsToken}
use Rattle.record.specs.Members.{is_member, representative}
use Rattle.record.specs.declared.log.Log.{Log}
use Rattle.record.specs.declared.Record.{Record}

-- this ring, and what the station has of it
abbrev pub current : Record → Log
current r = r.log

-- its members in circulation order
abbrev pub ids : Log → List ℕ
ids l = take l.count l.members

-- 13. Is it this ring's number and representative?
unfoldable pub this_ring : ℕ → List ℕ → Header → Bool
this_ring ring members h = eqb h.ring.0 ring && eqb h.representative (representative members)

-- 14. Is every id in it a member's (nobody excepted)? Of a token: the addressee and the blocker
abbrev pub blocker_member : List ℕ → Option ℕ → Bool
blocker_member members None = true
blocker_member members (Some id) = is_member members id

unfoldable pub token_members : List ℕ → Token → Bool
token_members members t = is_member members t.addressee && blocker_member members t.blocker

-- what was read is a token, and passes 13 and 14
abbrev pub reading_passes : ℕ → List ℕ → Result Frame Refusal → Bool
reading_passes ring members (Err why) = false
reading_passes ring members (Ok (IsMessage m)) = false
reading_passes ring members (Ok (IsToken t)) = this_ring ring members t.header && token_members members t

-- of kind 2, and passes 10 to 14
unfoldable pub token_passes : ℕ → List ℕ → List ℕ → Bool
token_passes ring members frame = reading_passes ring members (read_of frame)
