-- Founding. [document 01, The station record; Questions at the door: 1, 3 to 6]
use Rattle.std.specs.Prelude.{ℕ, Bool, List, [], replicate, leb, None, Ok}
use Rattle.frames.specs.Layout.{most_requests, shortest_token}
use Rattle.frames.specs.Token.{token_bytes}
use Rattle.frames.specs.declared.token.Token.{Token}
use Rattle.record.specs.Members.{representative, members_counted, ids_follow, own_among, ring_in_range}
use Rattle.record.specs.Fresh.{fresh}
use Rattle.record.specs.declared.Record.{Record}
use Rattle.station.specs.Reply.{Reply, asks}
use Rattle.station.specs.declared.refusal.Refusal.TheVariants.{NoRoom, MemberCount, BadIds, NotAmong, BadRing}
use Rattle.station.specs.declared.answer.Answer.TheVariants.{Founded}

-- the ring's first token, addressed to the representative
unfoldable pub first_token : List ℕ → ℕ → Token
first_token ids ring =
    record {
      header = record { ring = record { 0 = ring }; representative = representative ids };
      addressee = representative ids;
      number = record { 0 = 1 };
      highest = record { 0 = 0 };
      aru = record { 0 = 0 };
      blocker = None;
      round = 0;
      backlog = 0;
      count = 0;
      requests = replicate most_requests (record { 0 = 0 });
    }

-- `room`: is each buffer that the call lends large enough (1)? Then 3 to 6; r is the record before the call
unfoldable pub founded : Record → Bool → List ℕ → ℕ → ℕ → Reply
founded r room ids own ring =
    asks r room NoRoom
    (asks r (members_counted ids) MemberCount
    (asks r (ids_follow ids) BadIds
    (asks r (own_among ids own) NotAmong
    (asks r (ring_in_range ring) BadRing
    (record {
      answer = Ok Founded;
      rec = fresh ids own ring;
      frames = token_bytes (first_token ids ring);
      deliveries = [];
    })))))

-- on a struct question 1 asks for the token's buffer alone
abbrev pub founded_on : Record → ℕ → List ℕ → ℕ → ℕ → Reply
founded_on r room ids own ring = founded r (leb shortest_token room) ids own ring
