-- The words of demand 3 for a history, and the same words for the history as ordering sees it.
use Prim.Native.Nat.{ℕ, zero, suc, ◌≤◌}
use mathlib.Core.Path.{◌≡◌, refl, sym, ◌∙◌, ap, subst}
use mathlib.Core.Bool.{Bool, true, false, ◌&&◌, cond, and-false, false≢true}
use mathlib.Core.List.{List, [], ◌∷◌, ◌++◌, map, flatten}
use mathlib.Core.Logic.{inl, inr}
use mathlib.Core.Option.{Option, none, some}
use borrow.Author.Tests.{ne_eqb, eqb-true}
use native.Mathlib.Omega.{arith}
use lib.ListN.{length, take, drop, take-append-drop, length-drop}
use lib.Dec.{eqb}
use Rattle.frames.specs.Header.{own_size}
use Rattle.frames.specs.Read.{read_of}
use Rattle.frames.proofs.Facts.{part}
use Rattle.frames.specs.declared.header.Header.{Header}
use Rattle.frames.specs.declared.refusal.Refusal.{Refusal}
use Rattle.frames.specs.declared.reader.Frame.{Frame}
use Rattle.frames.specs.declared.reader.Frame.TheVariants.{Message as IsMessage, Token as IsToken}
use Rattle.std.specs.Prelude.{Result, Ok, Err}
use Rattle.visit.specs.Deliver.{joined}
use Rattle.visit.specs.Within.{frames_up_to, frames_in}
pub use Rattle.visit.proofs.FrameLaws.{joined-join}
use Rattle.ordering.specs.inner.Frame as seen
use Rattle.ordering.specs.Lists.{first_of}
use Rattle.ordering.proofs.Base.{first-is}
use Rattle.ordering.specs.inner.History as ordered
use Rattle.ring.specs.History.{Event, Written, place, written_by, written_at, written_in, is_message_of, is_numbered, reading, same_ring, said_kept, handed_over, KeptAt, Received, delivery_list, handed_by, deliveries}
use Rattle.ring.proofs.Lists.{texts, map-join, map-twice, ⊎_map, none≢some, some_inj, message-inj}
use Rattle.ring.proofs.seen.View.{token_in, message_number, message_in, frame_by, frame_seen, kept_by, event_seen}

-- ---- frames within bytes: joined they are the bytes

joined-up-to : (most : ℕ) (s : List ℕ) → length s ≤ most → joined (frames_up_to most s) ≡ s
unfolding frames_up_to flatten
joined-up-to zero [] h = refl
joined-up-to zero (x ∷ s) h = absurd (omega arith)
joined-up-to (suc most) [] h = refl
joined-up-to (suc most) (x ∷ s) h =
    let fewer : length (drop (own_size (x ∷ s)) (x ∷ s)) ≤ most = omega (arith, length-drop (own_size (x ∷ s)) (x ∷ s)) in
    rw (ne_eqb (suc (length s)) 0 (λ e. omega arith))
    (ap (λ rest. take (own_size (x ∷ s)) (x ∷ s) ++ rest) (joined-up-to most (drop (own_size (x ∷ s)) (x ∷ s)) fewer)
    ∙ take-append-drop (own_size (x ∷ s)) (x ∷ s))

pub joined-frames : (s : List ℕ) → joined (frames_in s) ≡ s
unfolding frames_in
joined-frames s = joined-up-to (length s) s (omega arith)

-- ---- frames

module _ (ring : Header) where
  by-ring : (n number : ℕ) (x : seen.Message) (t : seen.Token) (b : Bool) → x.number ≡ number → ordered.is_numbered n (cond b (seen.message x) (seen.token t)) ≡ (b && eqb number n)
  by-ring n number x t true e = rw e
  by-ring n number x t false e = refl

  numbered-by : (n : ℕ) (f : List ℕ) (a : Result Frame Refusal) → (read_of f) ≡ a → ordered.is_numbered n (frame_by ring f a) ≡ is_message_of ring n a
  unfolding message_in
  numbered-by n f (Err why) e = refl
  numbered-by n f (Ok (IsMessage m)) e = by-ring n m.number.0 (message_in f) (token_in f) (same_ring ring m.header) (ap message_number e)
  numbered-by n f (Ok (IsToken t)) e = refl

  pub numbered-seen : (n : ℕ) (f : List ℕ) → ordered.is_numbered n (frame_seen ring f) ≡ is_numbered ring n f
  unfolding frame_seen is_numbered
  numbered-seen n f = numbered-by n f (read_of f) refl

  -- a frame with a number is seen as the message in it
  message-by : (n : ℕ) (f : List ℕ) (a : Result Frame Refusal) → (read_of f) ≡ a → is_message_of ring n a ≡ true → (frame_by ring f a ≡ seen.message (message_in f)) × ((message_in f).number ≡ n)
  unfolding message_in
  message-by n f (Err why) e t = absurd (false≢true t)
  message-by n f (Ok (IsMessage m)) e t =
      let same = part t (λ (h : same_ring ring m.header ≡ false). rw h) in
      let number = part t (λ (h : eqb m.number.0 n ≡ false). simp (h, and-false)) in
      (rw same, ap message_number e ∙ eqb-true m.number.0 n number)
  message-by n f (Ok (IsToken k)) e t = absurd (false≢true t)

  pub message-seen : (n : ℕ) (f : List ℕ) → is_numbered ring n f ≡ true → (frame_seen ring f ≡ seen.message (message_in f)) × ((message_in f).number ≡ n)
  unfolding frame_seen is_numbered
  message-seen n f t = message-by n f (read_of f) refl t

  -- ---- what is written

  abbrev pub written_seen : Written → ordered.Written
  written_seen w = record { frame = frame_seen ring w.frame; place = w.place }

  pub written-seen : (history : List Event) → ordered.written_in (map (event_seen ring) history) ≡ map written_seen (written_in history)
  unfolding written_in ordered.written_in event_seen
  written-seen [] = refl
  written-seen (e ∷ earlier) =
      rw (written-seen earlier, map-join written_seen (written_in earlier) (map (written_at (place e)) (written_by e)))
      (ap (λ new. map written_seen (written_in earlier) ++ new)
      (map-twice (ordered.written_at (place e)) (frame_seen ring) (written_by e) ∙ sym (map-twice written_seen (written_at (place e)) (written_by e))))

  abbrev pub first_seen : Option Written → Option ordered.Written
  first_seen none = none
  first_seen (some w) = some (written_seen w)

  first-seen : (n : ℕ) (ws : List Written) → first_of (λ w. ordered.is_numbered n w.frame) (map written_seen ws) ≡ first_seen (first_of (λ w. is_numbered ring n w.frame) ws)
  unfolding first_of
  first-seen n [] = refl
  first-seen n (w ∷ ws) = rw (numbered-seen n w.frame) (by_first (is_numbered ring n w.frame) (first-seen n ws))
    where
      by_first : (b : Bool) → first_of (λ w. ordered.is_numbered n w.frame) (map written_seen ws) ≡ first_seen (first_of (λ w. is_numbered ring n w.frame) ws) → cond b (some (written_seen w)) (first_of (λ w. ordered.is_numbered n w.frame) (map written_seen ws)) ≡ first_seen (cond b (some w) (first_of (λ w. is_numbered ring n w.frame) ws))
      by_first true h = refl
      by_first false h = h

  pub reading-seen : (history : List Event) (n : ℕ) → ordered.reading (map (event_seen ring) history) n ≡ first_seen (reading ring history n)
  unfolding reading ordered.reading
  reading-seen history n = rw (written-seen history) (first-seen n (written_in history))

  -- the reading of a number has that number
  pub reading-numbered : (history : List Event) (n : ℕ) (w : Written) → reading ring history n ≡ some w → is_numbered ring n w.frame ≡ true
  unfolding reading
  reading-numbered history n w e = (first-is (λ u. is_numbered ring n u.frame) (written_in history) w e).1

  -- ---- received, both ways

  kept_there : (p n : ℕ) (frame : List ℕ) (history : List Event) → frame_seen ring frame ≡ seen.message (message_in frame) → KeptAt p frame history → ordered.KeptAt p (frame_seen ring frame) (map (event_seen ring) history)
  unfolding event_seen
  kept_there p n frame [] m k = elim k [ ]
  kept_there p n frame (e ∷ earlier) m (inl k) =
      let kept : kept_by (said_kept e.reply.answer) (handed_over e.call) ≡ some (message_in frame) = rw (k.1, k.2) in
      inl (k.0, (message_in frame, kept, m))
  kept_there p n frame (e ∷ earlier) m (inr k) = inr (kept_there p n frame earlier m k)

  -- what was kept is the frame that was handed over
  kept-by : (b : Bool) (f : Option (List ℕ)) (x : seen.Message) → kept_by b f ≡ some x → (b ≡ true) × (f ≡ some x.text)
  unfolding message_in
  kept-by b none x e = absurd (none≢some e)
  kept-by true (some f) x e = (refl, ap (λ (y : seen.Message). some y.text) (some_inj e))
  kept-by false (some f) x e = absurd (none≢some e)

  kept_here : (p n : ℕ) (frame : List ℕ) (history : List Event) → frame_seen ring frame ≡ seen.message (message_in frame) → ordered.KeptAt p (frame_seen ring frame) (map (event_seen ring) history) → KeptAt p frame history
  unfolding event_seen message_in
  kept_here p n frame [] m k = elim k [ ]
  kept_here p n frame (e ∷ earlier) m (inl k) =
      let h = kept-by (said_kept e.reply.answer) (handed_over e.call) k.1.0 k.1.1 in
      let same : message_in frame ≡ k.1.0 = message-inj (sym m ∙ k.1.2) in
      inl (k.0, h.1 ∙ ap some (sym (ap (λ (y : seen.Message). y.text) same)), h.0)
  kept_here p n frame (e ∷ earlier) m (inr k) = inr (kept_here p n frame earlier m k)

  pub received-there : (history : List Event) (p n : ℕ) → Received ring history p n → ordered.Received p n (map (event_seen ring) history)
  received-there history p n r =
      record {
        first = written_seen r.first;
        is = reading-seen history n ∙ ap first_seen r.is;
        how = ⊎_map (kept_there p n r.first.frame history (message-seen n r.first.frame (reading-numbered history n r.first r.is)).0) (λ h. h) r.how;
      }

  pub received-here : (history : List Event) (p n : ℕ) → ordered.Received p n (map (event_seen ring) history) → Received ring history p n
  received-here history p n r = by-reading (reading ring history n) refl (sym (reading-seen history n) ∙ r.is)
    where
      by-reading : (o : Option Written) → reading ring history n ≡ o → first_seen o ≡ some r.first → Received ring history p n
      by-reading none e f = absurd (none≢some f)
      by-reading (some w) e f =
          let same : written_seen w ≡ r.first = some_inj f in
          let m = (message-seen n w.frame (reading-numbered history n w e)).0 in
          record {
            first = w;
            is = e;
            how =
                ⊎_map
                (λ k. kept_here p n w.frame history m (subst (λ (v : ordered.Written). ordered.KeptAt p v.frame (map (event_seen ring) history)) (sym same) k))
                (λ h. ap (λ (v : ordered.Written). v.place) same ∙ h)
                r.how;
          }

  -- ---- delivery lists

  texts-in : (fs : List (List ℕ)) → texts (map message_in fs) ≡ fs
  unfolding message_in
  texts-in [] = refl
  texts-in (f ∷ fs) = ap (λ rest. f ∷ rest) (texts-in fs)

  pub handed-seen : (p : ℕ) (history : List Event) → texts (ordered.handed_at p (map (event_seen ring) history)) ≡ deliveries p history
  unfolding ordered.handed_at deliveries event_seen
  handed-seen p [] = refl
  handed-seen p (e ∷ earlier) =
      map-join (λ (x : seen.Message). x.text) (ordered.handed_at p (map (event_seen ring) earlier)) (cond (eqb (place e) p) (map message_in (handed_by e)) [])
      ∙ rw (handed-seen p earlier) (ap (λ new. deliveries p earlier ++ new) (by_place (eqb (place e) p)))
    where
      by_place : (b : Bool) → texts (cond b (map message_in (handed_by e)) []) ≡ cond b (handed_by e) []
      by_place true = texts-in (handed_by e)
      by_place false = refl

pub delivery-list : (p : ℕ) (history : List Event) → joined (deliveries p history) ≡ delivery_list p history
unfolding delivery_list deliveries flatten
delivery-list p [] = refl
delivery-list p (e ∷ earlier) =
    joined-join (deliveries p earlier) (cond (eqb (place e) p) (handed_by e) [])
    ∙ rw (delivery-list p earlier) (ap (λ new. delivery_list p earlier ++ new) (by_place (eqb (place e) p)))
  where
    by_place : (b : Bool) → joined (cond b (handed_by e) []) ≡ cond b e.reply.deliveries []
    by_place true = joined-frames e.reply.deliveries
    by_place false = refl
