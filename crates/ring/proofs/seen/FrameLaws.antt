-- Frames that read, and what is seen in them.
use Prim.Native.Nat.{ℕ, zero, suc, ◌≤◌}
use mathlib.Core.Path.{◌≡◌, refl, sym, ap, ◌∙◌}
use mathlib.Core.Bool.{Bool, true, not}
use mathlib.Core.List.{List, [], ◌∷◌, map, flatten, append-nil}
use borrow.Author.Tests.{eq-eqb}
use native.Mathlib.Omega.{arith}
use lib.Dec.{eqb}
use Rattle.frames.specs.Layout.{most_service}
use Rattle.frames.specs.Message.{content_of, message_follows}
use Rattle.frames.specs.Read.{a_message, a_token, read_of}
use Rattle.frames.specs.declared.header.Header.{Header}
use Rattle.frames.specs.declared.message.Message.{Message}
use Rattle.frames.specs.declared.token.Token.{Token}
use Rattle.frames.specs.declared.refusal.Refusal.{Refusal}
use Rattle.frames.specs.declared.reader.Frame.{Frame}
use Rattle.std.specs.Prelude.{Result}
use Rattle.frames.proofs.Facts.{message-facts}
use Rattle.frames.proofs.Rewritten.{message-read, token-read}
pub use Rattle.frames.proofs.Rewritten.{message-not-token, unread-not-message, unread-not-token}
use Rattle.record.specs.declared.log.Log.{Log}
use Rattle.visit.specs.Deliver.{ring_header, message_with, frame_with, entry_of, frame_of, due, handed_out}
use Rattle.visit.specs.Within.{frames_in}
use Rattle.visit.specs.Reads.{Each, HeldReads}
use Rattle.visit.proofs.FrameLaws.{reads-exact}
use Rattle.visit.proofs.WithinLaws.{frames-within}
use Rattle.ordering.specs.inner.Frame as seen
use Rattle.ring.specs.History.{same_ring}
use Rattle.ring.proofs.seen.View.{seen_token, token_by, token_in, message_in, frame_by, frame_seen}
use Rattle.ring.proofs.seen.Law.{Rewrites}
use Rattle.ring.proofs.seen.StoreLaws.{message_held}

-- ---- what reads is the one frame within its own bytes

pub token-alone : (s : List ℕ) (t : Token) → read_of s ≡ a_token t → frames_in s ≡ s ∷ []
unfolding flatten
token-alone s t e = rw append-nil at (frames-within (s ∷ []) ((token-read s t e).exact, tt))

-- ---- a message's values follow the layout

same-message : (m k : Message) → a_message m ≡ a_message k → m ≡ k
same-message m k e = cc

pub message-follows : (s : List ℕ) (m : Message) → read_of s ≡ a_message m → message_follows m (content_of s) ≡ true
message-follows s m e = let r = message-read s m e in rw (← r.values) r.follows

-- ---- what is seen in it

pub message-in : (s : List ℕ) (m : Message) → read_of s ≡ a_message m → message_in s ≡ record { number = m.number.0; safe = eqb m.service 1; text = s }
unfolding message_in
message-in s m e = rw e

pub frame-message : (ring : Header) (s : List ℕ) (m : Message) → read_of s ≡ a_message m → same_ring ring m.header ≡ true → frame_seen ring s ≡ seen.message (message_in s)
unfolding frame_seen
frame-message ring s m e same = go (read_of s) e
  where
    go : (a : Result Frame Refusal) → a ≡ a_message m → frame_by ring s a ≡ seen.message (message_in s)
    go a f = rw (f, same)

-- its own ring is the same
pub same-itself : (h : Header) → same_ring h h ≡ true
same-itself h = rw (eq-eqb h.ring.0 h.ring.0 refl, eq-eqb h.representative h.representative refl)

pub frame-token : (ring : Header) (s : List ℕ) (t : Token) → read_of s ≡ a_token t → frame_seen ring s ≡ seen.token (token_in s)
unfolding frame_seen
frame-token ring s t e = go (read_of s) e
  where
    go : (a : Result Frame Refusal) → a ≡ a_token t → frame_by ring s a ≡ seen.token (token_in s)
    go a f = rw f

-- a frame that reads as a token is seen as that token
pub token-seen : (ring : Header) (f : List ℕ) (t : Token) → read_of f ≡ a_token t → frame_seen ring f ≡ seen.token (seen_token t f)
unfolding frame_seen
token-seen ring f t e = frame-token ring f t e ∙ ap (λ (x : Result Frame Refusal). seen.token (token_by f x)) e

-- ---- a token need not be rewritten

pub token-rewrites : (s : List ℕ) (t : Token) → read_of s ≡ a_token t → Rewrites s
token-rewrites s t e m f = absurd (message-not-token m t (sym f ∙ e))

-- ---- a message that is held

-- safe or agreed
pub safe-service : (k : ℕ) → k ≤ most_service → eqb k 1 ≡ not (eqb k 0)
safe-service zero h = refl
safe-service (suc zero) h = refl
safe-service (suc (suc k)) h = absurd (omega arith)

module _ (l : Log) (n : ℕ) (reads : HeldReads l n) where
  pub held-message-in : message_in (frame_of l n) ≡ message_held l n
  held-message-in =
      let m = message_with l n (entry_of l n) in
      let facts = message-facts m (content_of (frame_of l n)) (message-follows (frame_of l n) m reads.1) in
      message-in (frame_of l n) m reads.1
      ∙ ap (λ (b : Bool). record { number = n; safe = b; text = frame_of l n }) (safe-service (entry_of l n).service facts.service)

  pub held-rewrites : Rewrites (frame_of l n)
  unfolding frame_with
  held-rewrites m e =
      rw (← (same-message (message_with l n (entry_of l n)) m (sym reads.1 ∙ e)), reads.2)

  pub held-frame : (ring : Header) → ring ≡ ring_header l → frame_seen ring (frame_of l n) ≡ seen.message (message_held l n)
  held-frame ring e =
      frame-message ring (frame_of l n) (message_with l n (entry_of l n)) reads.1 (rw e (same-itself (ring_header l)))
      ∙ ap seen.message held-message-in

-- ---- frames of held messages, one after another

pub held-messages-in : (l : Log) (ns : List ℕ) → Each (HeldReads l) ns → map message_in (map (frame_of l) ns) ≡ map (message_held l) ns
held-messages-in l [] e = refl
held-messages-in l (n ∷ ns) e = rw (held-message-in l n e.0, held-messages-in l ns e.1)

-- so what is handed out is seen as the messages that are held
pub handed-seen : (l : Log) (safe : ℕ) → Each (HeldReads l) (due l safe) → map message_in (frames_in (handed_out l safe)) ≡ map (message_held l) (due l safe)
handed-seen l safe e =
    ap (map message_in) (frames-within (map (frame_of l) (due l safe)) (reads-exact l (due l safe) e)) ∙ held-messages-in l (due l safe) e
