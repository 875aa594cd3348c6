-- Posting. [document 01, Questions at the door: 2, 7 to 9]
use Rattle.std.specs.Prelude.{ℕ, List, [], length, leb, ltb, Ok}
use Rattle.frames.specs.Layout.{most_service, most_content}
use Rattle.record.specs.Size.{most_posts}
use Rattle.record.specs.Parts.{with_posts}
use Rattle.record.specs.Posts.{queued}
use Rattle.record.specs.Whole.{whole}
use Rattle.record.specs.declared.Record.{Record}
use Rattle.station.specs.Reply.{Reply, asks}
use Rattle.station.specs.declared.refusal.Refusal.TheVariants.{NotWhole, LongContent, OtherService, PostsFull}
use Rattle.station.specs.declared.answer.Answer.TheVariants.{Posted}

-- the record with one post more, behind the others
abbrev pub with_post : Record → ℕ → List ℕ → Record
with_post r service content = with_posts r (queued r.posts service content)

unfoldable pub posted : Record → ℕ → List ℕ → Reply
posted r service content =
    asks r (whole r) NotWhole
    (asks r (leb (length content) most_content) LongContent
    (asks r (leb service most_service) OtherService
    (asks r (ltb r.posts.count most_posts) PostsFull
    (record { answer = Ok Posted; rec = with_post r service content; frames = []; deliveries = [] }))))
