-- A call's broadcasts reach a place, frame by frame.
use Prim.Native.Nat.{ℕ, ◌+◌, ◌-◌, ◌≤◌}
use mathlib.Core.Path.{◌≡◌, refl, sym, ap, ◌∙◌}
use mathlib.Core.Bool.{Bool, true, false, cond}
use mathlib.Core.List.{List, [], ◌∷◌, ◌++◌, append_assoc, append-nil}
use native.Mathlib.Omega.{arith}
use lib.ListN.{length, take, drop, length-append, length-drop, take-append-drop, drop_of_length-le}
use lib.Seq.{take_all, take_at, length-take-le, drop-drop, drop-append-add}
use Rattle.frames.specs.Read.{read_of}
use Rattle.station.specs.Answer.{outcome_of}
use Rattle.station.specs.Reply.{Reply}
use Rattle.visit.specs.Output.{followed_by, most_frames}
use Rattle.visit.specs.Within.{frames_in}
use Rattle.station.specs.declared.answer.Outcome.{Outcome}
use Rattle.ring.specs.Stations.{record_at, with_record, records_after, arrived_at, is_message, HeardThere, hears, hears_message, heard_so_far, Reached, hears_all, heard_at}
use Rattle.ring.proofs.places.PlaceLaws.{with-same, at_with, with-with}
use Rattle.ring.proofs.places.ArriveLaws.{counted}

-- ---- a buffer of bytes joined

-- more bytes behind the first ones
joined-more : (at : ℕ) (x d : List ℕ) → at ≤ length d → take at d ++ (x ++ drop (length x) (drop at d)) ≡ followed_by (take at d ++ x) d
joined-more at x d h =
    let n : length (take at d ++ x) ≡ at + length x = rw (length-append, length-take-le at d h) in
    rw (n, ← drop-drop (length x) at d, append_assoc)

-- joined anew over what was joined
joined-again : (a b d : List ℕ) → length a ≤ length b → followed_by b (followed_by a d) ≡ followed_by b d
joined-again a b d h =
    let n : length b ≡ length a + (length b - length a) = omega arith in
    ap (λ (l : List ℕ). b ++ l) (rw (n, drop-append-add, drop-drop))

-- ---- one frame

module _ (p : ℕ) (records frame deliveries : List ℕ) (at : ℕ) (inside : at ≤ length deliveries) where
  pub not-reached : is_message (read_of frame) ≡ false → Reached p records frame deliveries at at records deliveries
  not-reached e =
      let n : length (take at deliveries) ≡ at = length-take-le at deliveries inside in
      record {
        count = rw e (sym n);
        left = rw e (with-same p records);
        joined = rw (e, n, take-append-drop);
      }

  -- the part of the buffer from `at` on, as the code spells it
  abbrev part : List ℕ
  part = take (length deliveries - at) (drop at deliveries)

  part-is : part ≡ drop at deliveries
  part-is = take_all (length deliveries - at) (drop at deliveries) (simp length-drop (omega arith))

  room : length part ≡ length deliveries - length (take at deliveries)
  room = rw (part-is, length-drop, length-take-le at deliveries inside)

  module _ (e : is_message (read_of frame) ≡ true)
      (o : Outcome) (records' part' : List ℕ)
      (said : o ≡ outcome_of (arrived_at p records frame most_frames (length part)).answer)
      (left_there : records' ≡ records_after p (arrived_at p records frame most_frames (length part)) records)
      (handed-there : part' ≡ followed_by (arrived_at p records frame most_frames (length part)).deliveries part) where
    reply : Reply
    reply = arrived_at p records frame most_frames (length part)

    pub reached : Reached p records frame deliveries at (at + o.deliveries) records' (take at deliveries ++ (part' ++ drop (length deliveries - at) (drop at deliveries)))
    reached =
        let c = counted (record_at p records) frame most_frames (length part) in
        let n : length (take at deliveries) ≡ at = length-take-le at deliveries inside in
        let x = (arrived_at p records frame most_frames (length part)).deliveries in
        let none : drop (length deliveries - at) (drop at deliveries) ≡ [] = drop_of_length-le (drop at deliveries) {i = length deliveries - at} (simp length-drop (omega arith)) in
        let there : part' ≡ x ++ drop (length x) (drop at deliveries) = handed-there ∙ ap (λ (l : List ℕ). x ++ drop (length x) l) part-is in
        record {
          count = rw (e, ← room, length-append, n) (omega (arith, ap (λ (y : Outcome). y.deliveries) said));
          left = rw (e, ← room) left_there;
          joined = rw (e, ← room, none, append-nil, there) (joined-more at x deliveries inside);
        }

-- what was handed out stays
grows : (room : ℕ) (h : HeardThere) (frame : List ℕ) → length h.handed ≤ length (hears room h frame).handed
grows room h frame = go (is_message (read_of frame))
  where
    go : (b : Bool) → length h.handed ≤ length (cond b (hears_message room h frame) h).handed
    go true = simp length-append (omega arith)
    go false = omega arith

-- ---- a loop that hands all frames to a place: what is still to be heard, from here on, gives what the whole gives

pub record Hearing (p : ℕ) (records₀ written deliveries₀ records deliveries : List ℕ) (left : List (List ℕ)) (at : ℕ) : Type 0 where
  pub inside : at ≤ length deliveries
  pub size : length deliveries ≡ length deliveries₀
  pub width : length records ≡ length records₀
  pub there : records ≡ with_record p (record_at p records) records₀
  pub joined : deliveries ≡ followed_by (take at deliveries) deliveries₀
  pub rest : hears_all (length deliveries₀) (heard_so_far p records deliveries at) left ≡ heard_at p records₀ written (length deliveries₀)

module _ (p : ℕ) (records₀ written deliveries₀ : List ℕ) where
  pub hearing-starts : Hearing p records₀ written deliveries₀ records₀ deliveries₀ (frames_in written) 0
  unfolding heard_at
  hearing-starts =
      record {
        inside = omega arith;
        size = refl;
        width = refl;
        there = with-same p records₀;
        joined = refl;
        rest = refl;
      }

  module _ (records deliveries : List ℕ) (left : List (List ℕ)) (at : ℕ) (h : Hearing p records₀ written deliveries₀ records deliveries left at) where
    pub hearing-goes : (frame : List ℕ) (after : List (List ℕ)) (at' : ℕ) (records' deliveries' : List ℕ)
        → left ≡ frame ∷ after
        → Reached p records frame deliveries at at' records' deliveries'
        → length records' ≡ length records
        → length deliveries' ≡ length deliveries
        → Hearing p records₀ written deliveries₀ records' deliveries' after at'
    unfolding hears_all
    hearing-goes frame after at' records' deliveries' cuts r same same' =
        let h₀ = heard_so_far p records deliveries at in
        let h₁ = hears (length deliveries) h₀ frame in
        let kept : length (with_record p h₁.bytes records) ≡ length records = sym (ap length r.left) ∙ same in
        let kept₀ : length (with_record p (record_at p records) records₀) ≡ length records₀ = sym (ap length h.there) ∙ h.width in
        let bytes : record_at p records' ≡ h₁.bytes = rw r.left (at_with p records h₁.bytes kept) in
        let handed : take at' deliveries' ≡ h₁.handed = rw (r.joined, r.count) (take_at h₁.handed _ (length h₁.handed) refl) in
        let fits = simp length-append at (ap length r.joined) in
        let state : heard_so_far p records' deliveries' at' ≡ h₁ =
        ap (λ (b : List ℕ). record { bytes = b; handed = take at' deliveries' }) bytes ∙ ap (λ (x : List ℕ). record { bytes = h₁.bytes; handed = x }) handed in
        record {
          inside = omega (arith, r.count);
          size = same' ∙ h.size;
          width = same ∙ h.width;
          there = r.left
              ∙ ap (λ (l : List ℕ). with_record p h₁.bytes l) h.there
              ∙ with-with p records₀ (record_at p records) kept₀ h₁.bytes
              ∙ sym (ap (λ (s : List ℕ). with_record p s records₀) bytes);
          joined = r.joined
              ∙ ap (λ (d : List ℕ). followed_by h₁.handed d) h.joined
              ∙ joined-again (take at deliveries) h₁.handed deliveries₀ (grows (length deliveries) h₀ frame)
              ∙ sym (ap (λ (b : List ℕ). followed_by b deliveries₀) handed);
          rest = ap (λ (x : HeardThere). hears_all (length deliveries₀) x after) state
              ∙ ap (λ (n : ℕ). hears_all (length deliveries₀) (hears n h₀ frame) after) h.size
              ∙ rw cuts at h.rest;
        }

    pub hearing-ends : left ≡ []
        → (at ≡ length (heard_at p records₀ written (length deliveries₀)).handed)
        × (records ≡ with_record p (heard_at p records₀ written (length deliveries₀)).bytes records₀)
        × (deliveries ≡ followed_by (heard_at p records₀ written (length deliveries₀)).handed deliveries₀)
    unfolding hears_all
    hearing-ends done =
        let over : heard_so_far p records deliveries at ≡ heard_at p records₀ written (length deliveries₀) = rw done at h.rest in
        rw (← over) (sym (length-take-le at deliveries h.inside), h.there, h.joined)
