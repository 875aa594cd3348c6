-- The law of each call: the station, seen as ordering sees it, does what the abstract one does.
use Prim.Native.Nat.{ℕ, ◌<◌}
use mathlib.Core.Path.{◌≡◌}
use mathlib.Core.List.{List}
use Rattle.frames.specs.Message.{content_of, message_bytes}
use Rattle.frames.specs.Read.{read_of, a_message}
use Rattle.frames.specs.declared.message.Message.{Message}
use Rattle.record.specs.declared.Record.{Record}
use Rattle.record.specs.Ring.{current}
use Rattle.visit.specs.Deliver.{ring_header}
use Rattle.visit.specs.Reads.{Each}
use Rattle.ordering.specs.inner.Frame as seen
use Rattle.ordering.specs.inner.Visit.{Choice, Allowed}
use Rattle.ordering.specs.inner.Run as ordered
use Rattle.ring.specs.Calls.{Call, post, arrival, resending, station_of, reply_to}
use Rattle.ring.specs.History.{written_by}
use Rattle.ring.proofs.seen.View.{station_seen, frame_seen, event_seen}

-- a frame that reads as a message is the one that its values write
abbrev pub Rewrites : List ℕ → Type 0
Rewrites frame = (m : Message) → read_of frame ≡ a_message m → message_bytes m (content_of frame) ≡ frame

-- a call is seen as another
pub record SeenAs (r : Record) (c : Call) (d : ordered.Call) : Type 0 where
  pub at : ordered.station_of d ≡ station_of c
  pub station : station_seen (reply_to r c).rec ≡ ordered.moved (station_seen r) d
  pub event : event_seen (ring_header (current r)) (record { call = c; reply = reply_to r c }) ≡ ordered.event (station_seen r) d
  -- the ring stays, and every message written is the one that its values write
  pub ring : ring_header (current (reply_to r c).rec) ≡ ring_header (current r)
  pub written : Each Rewrites (written_by (record { call = c; reply = reply_to r c }))

-- how a call is seen: changing nothing, as a resending, as a message or as a visit
pub data Sight (r : Record) (c : Call) : Type 0 where
  as_quiet : SeenAs r c (ordered.quiet (station_of c)) → Sight r c
  as-resending : SeenAs r c (ordered.resending (station_of c)) → Sight r c
  as-hearing : (frame a b : List ℕ) (x : seen.Message)
      → c ≡ arrival (station_of c) frame a b
      → frame_seen (ring_header (current r)) frame ≡ seen.message x
      → SeenAs r c (ordered.hearing (station_of c) x)
      → Sight r c
  as-visit : (frame a b : List ℕ) (t : seen.Token) (h : Choice)
      → c ≡ arrival (station_of c) frame a b
      → frame_seen (ring_header (current r)) frame ≡ seen.token t
      → t.addressee ≡ (station_seen r).own
      → (station_seen r).last < t.number
      → Allowed (station_seen r) t h
      → SeenAs r c (ordered.visiting (station_of c) t h)
      → Sight r c

-- an arrival's frame is one that its values write
abbrev pub HandedRewrites : Call → Type 0
HandedRewrites (post place service content) = Unit {0}
HandedRewrites (arrival place frame frames deliveries) = Rewrites frame
HandedRewrites (resending place frames) = Unit {0}

-- the law of each call
abbrev pub Law : Type 0
Law = (r : Record) (c : Call) → HandedRewrites c → Sight r c
