-- The messages that a station holds. [document 01, The station record; the paper's receive_message_queue]
use Rattle.std.specs.Prelude.{ℕ, zero, suc, ◌+◌, ◌*◌, ◌-◌, ◌%◌, Bool, not, ◌&&◌, List, length, get_or, set, replicate, leb, ltb, eqb}
use Rattle.std.proofs.lemmas.List.Edits.{sets}
use Rattle.frames.specs.Layout.{most_content}
use Rattle.frames.specs.declared.number.MessageNumber.{MessageNumber}
use Rattle.record.specs.Size.{most_held}
use Rattle.record.specs.Count.{numbers_after, those}
use Rattle.record.specs.Contents.{content_in}
use Rattle.record.specs.declared.log.Held.{Held}
use Rattle.record.specs.declared.log.Log.{Log}

-- a held message, its number apart
pub record Entry : Type 0 where
  pub sender : ℕ
  pub service : ℕ
  pub content : List ℕ

-- a held message's place follows from its number alone
abbrev pub place_of : ℕ → ℕ
place_of number = number % most_held

-- a place is in use where its sender is not 0
abbrev pub in_use : Held → ℕ → Bool
in_use h place = not (eqb (get_or h.senders place 0) 0)

abbrev pub entry_at : Held → ℕ → Entry
entry_at h place =
    record {
      sender = get_or h.senders place 0;
      service = get_or h.services place 0;
      content = content_in h.lengths h.contents place;
    }

-- numbered above the safe mark and at most safe mark + 32
abbrev pub in_window : Log → ℕ → Bool
in_window l number = ltb l.safe.0 number && leb number (l.safe.0 + most_held)

-- is this number held?
unfoldable pub holds : Log → ℕ → Bool
holds l number = in_window l number && in_use l.held (place_of number)

-- the numbers held
unfoldable pub held_numbers : Log → List ℕ
held_numbers l = those (holds l) (numbers_after l.safe.0 most_held)

-- ---- a message is held under a number

unfoldable pub held_with : Held → ℕ → Entry → Held
held_with h place e =
    record {
      senders = set h.senders place e.sender;
      services = set h.services place e.service;
      lengths = set h.lengths place (length e.content);
      contents = sets h.contents (most_content * place) e.content;
    }

-- the log with other marks and other messages
abbrev pub log_with : Log → MessageNumber → MessageNumber → MessageNumber → Held → Log
log_with l level safe delivered h =
    record {
      ring = l.ring;
      count = l.count;
      members = l.members;
      level = level;
      safe = safe;
      delivered = delivered;
      held = h;
    }

-- the place was free before, so the bytes past the content are zero
abbrev pub stored : Log → ℕ → Entry → Log
stored l number e = log_with l l.level l.safe l.delivered (held_with l.held (place_of number) e)

-- ---- everything up to a new safe mark is let go

unfoldable pub cleared : Held → ℕ → Held
cleared h place =
    record {
      senders = set h.senders place 0;
      services = set h.services place 0;
      lengths = set h.lengths place 0;
      contents = sets h.contents (most_content * place) (replicate most_content 0);
    }

-- the places of n numbers, from `first` on, are cleared
unfoldable pub cleared_from : Held → ℕ → ℕ → Held
cleared_from h first zero = h
cleared_from h first (suc n) = cleared_from (cleared h (place_of first)) (suc first) n

-- the one place where the safe mark rises. `holds` looks through the log's own safe mark, so whoever needs what was held until now
-- looks it up before
unfoldable pub let_go : Log → ℕ → Log
let_go l safe = log_with l l.level (record { 0 = safe }) l.delivered (cleared_from l.held (suc l.safe.0) (safe - l.safe.0))
