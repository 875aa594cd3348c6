-- A refusal and a post change nothing that ordering sees.
use Rattle.std.specs.Prelude.{Ok}
use Prim.Native.Nat.{ℕ}
use mathlib.Core.Path.{◌≡◌, refl, ◌∙◌}
use mathlib.Core.Bool.{false}
use mathlib.Core.List.{List, []}
use mathlib.Core.Option.{Option, none, some}
use Rattle.record.specs.Ring.{current}
use Rattle.record.specs.declared.Record.{Record}
use Rattle.station.specs.Reply.{Reply, refused}
use Rattle.visit.specs.Deliver.{ring_header}
use Rattle.station.specs.Post.{with_post, posted}
use Rattle.station.specs.declared.refusal.Refusal.{Refusal}
use Rattle.station.specs.declared.answer.Answer.TheVariants.{Posted}
use Rattle.station.proofs.ReplyGood.{posted-either}
use Rattle.ordering.specs.inner.Run as ordered
use Rattle.ring.specs.Calls.{Call, post, station_of, reply_to}
use Rattle.ring.specs.History.{handed_over, said_kept}
use Rattle.ring.proofs.seen.View.{station_seen, kept_by}
use Rattle.ring.proofs.seen.Law.{Sight, as_quiet}
use Rattle.ring.proofs.seen.SeenLaws.{SeenReply, seen_as, no_frames, event-unwritten, event-same}

abbrev pub Quiet : Record → Call → Reply → Type 0
Quiet r c reply = SeenReply r c reply (ordered.quiet (station_of c))

kept-none : (handed : Option (List ℕ)) → kept_by false handed ≡ none
kept-none none = refl
kept-none (some frame) = refl

-- a reply without bytes that keeps no message and leaves all that is seen
pub quiet-reply : (r : Record) (c : Call) (reply : Reply)
    → said_kept reply.answer ≡ false
    → reply.frames ≡ []
    → reply.deliveries ≡ []
    → station_seen reply.rec ≡ station_seen r
    → ring_header (current reply.rec) ≡ ring_header (current r)
    → Quiet r c reply
quiet-reply r c reply said frames deliveries station ring =
    record {
      at = refl;
      station = station;
      event =
          event-unwritten (ring_header (current r)) c reply frames
          ∙ event-same (station_of c) _ _ [] _ _ (rw said (kept-none (handed_over c))) (rw (deliveries, no_frames));
      ring = ring;
      written = rw (frames, no_frames) tt;
    }

pub quiet-refused : (r : Record) (c : Call) (why : Refusal) → Quiet r c (refused r why)
quiet-refused r c why = quiet-reply r c (refused r why) refl refl refl refl refl

pub quiet-sight : (r : Record) (c : Call) (reply : Reply) → reply_to r c ≡ reply → Quiet r c reply → Sight r c
quiet-sight r c reply e q = as_quiet (seen_as r c reply (ordered.quiet (station_of c)) e q)

-- ---- every refusal

pub sight-refused : (r : Record) (c : Call) (why : Refusal) → reply_to r c ≡ refused r why → Sight r c
sight-refused r c why e = quiet-sight r c (refused r why) e (quiet-refused r c why)

-- ---- every post

quiet-taken : (r : Record) (place service : ℕ) (content : List ℕ) → Quiet r (post place service content) (record { answer = Ok Posted; rec = with_post r service content; frames = []; deliveries = [] })
unfolding station_seen
quiet-taken r place service content = quiet-reply r (post place service content) (record { answer = Ok Posted; rec = with_post r service content; frames = []; deliveries = [] }) refl refl refl refl refl

quiet-post : (r : Record) (place service : ℕ) (content : List ℕ) → Quiet r (post place service content) (posted r service content)
quiet-post r place service content =
    let c = post place service content in
    posted-either (Quiet r c) r (quiet-refused r c) service content (λ w short known room. quiet-taken r place service content)

pub sight-post : (r : Record) (place service : ℕ) (content : List ℕ) → Sight r (post place service content)
sight-post r place service content = quiet-sight r (post place service content) (posted r service content) refl (quiet-post r place service content)
