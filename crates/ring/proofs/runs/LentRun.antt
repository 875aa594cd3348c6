-- A ring over bytes runs as the ring of the records in them.
use Prim.Native.Nat.{ℕ}
use mathlib.Core.Path.{◌≡◌, refl, ◌∙◌, ap, fun_ext}
use mathlib.Core.Bool.{Bool, true, false, cond}
use mathlib.Core.List.{List, [], ◌∷◌, append-nil}
use native.Mathlib.Omega.{arith}
use lib.ListN.{length, drop, drop_of_length-le}
use lib.Dec.{eqb}
use Rattle.words.specs.Word.{Bytes}
use Rattle.record.specs.Layout.{record_size}
use Rattle.record.specs.Bytes.{record_bytes}
use Rattle.record.specs.Whole.{whole}
use Rattle.record.specs.Lent.{lent}
use Rattle.record.specs.declared.Record.{Record}
use Rattle.record.proofs.LentLaws.{lent_of}
use Rattle.record.proofs.RoundTrip.{bytes-restored, record-restored}
use Rattle.station.specs.Resend.{resent}
use Rattle.station.proofs.ReplyGood.{resent-either}
use Rattle.station.specs.Over.{post_over, arrive_over, resend_over}
use Rattle.station.specs.Reply.{station_after}
use Rattle.station.proofs.LentLaws.{whole_long, whole_lent}
use Rattle.station.proofs.ThereLaws.{posted-there, arrived-there}
use Rattle.ring.specs.Calls.{Call, post, arrival, resending, station_of, reply_to}
use Rattle.ring.specs.Run.{Ring, update, start, step, run, account_of, structs}
use Rattle.ring.specs.OverBytes.{lent_bytes, CallsOver}

-- ---- a resending leaves the record, and the bytes

module _ (s : List ℕ) (room : ℕ) where
  -- nothing stands after a whole record
  nothing-after : whole (lent s) ≡ true → drop record_size s ≡ []
  nothing-after w = drop_of_length-le s {i = record_size} (omega (arith, whole_long s w))

  resent-there : lent (station_after (resent (lent s) room) s) ≡ (resent (lent s) room).rec
  resent-there =
      resent-either (λ reply. lent (station_after reply s) ≡ reply.rec) (lent s) (λ why. refl) room (λ w.
      let restored = record-restored (lent s) w in
      rw (nothing-after w, append-nil) (lent_of (record_bytes (lent s)) restored.1 ∙ restored.0))

  resent-unwritten : Bytes s → station_after (resent (lent s) room) s ≡ s
  resent-unwritten bytes =
      resent-either (λ reply. station_after reply s ≡ s) (lent s) (λ why. refl) room (λ w.
      rw (nothing-after w, append-nil, whole_lent s w) (bytes-restored s bytes (whole_long s w)))

-- ---- a call over bytes is the one over C

pub calls-over : CallsOver
unfolding post_over arrive_over resend_over
calls-over =
    record {
      posts = λ s place service content. refl;
      arrivals = λ s place frame frames deliveries. refl;
      resendings = λ s place frames. refl;
      unwritten = λ s place frames bytes. resent-unwritten s (length frames) bytes;
    }

-- and it is the call on the record in them
after-lent : (s : List ℕ) (c : Call) → lent (lent_bytes.leaves s c) ≡ (reply_to (lent s) c).rec
unfolding post_over arrive_over
after-lent s (post place service content) = posted-there s service content
after-lent s (arrival place frame frames deliveries) = arrived-there s frame (length frames) (length deliveries)
after-lent s (resending place frames) = resent-there s (length frames)

-- ---- so do all calls

abbrev lent_ring : Ring (List ℕ) → Ring Record
lent_ring r = record { at = λ p. lent (r.at p); history = r.history }

update-lent : (p : ℕ) (s : List ℕ) (at : ℕ → List ℕ) (q : ℕ) → lent (update p s at q) ≡ update p (lent s) (λ i. lent (at i)) q
unfolding update
update-lent p s at q = go (eqb q p)
  where
    go : (b : Bool) → lent (cond b s (at q)) ≡ cond b (lent s) (lent (at q))
    go true = refl
    go false = refl

step-lent : (r : Ring (List ℕ)) (c : Call) → lent_ring (step lent_bytes r c) ≡ step structs (lent_ring r) c
unfolding step
step-lent r c =
    let s = r.at (station_of c) in
    let at : (λ q. lent (update (station_of c) (lent_bytes.leaves s c) r.at q)) ≡ update (station_of c) (reply_to (lent s) c).rec (λ q. lent (r.at q)) =
    fun_ext (λ q. update-lent (station_of c) (lent_bytes.leaves s c) r.at q) ∙ ap (λ x. update (station_of c) x (λ q. lent (r.at q))) (after-lent s c) in
    ap (λ (f : ℕ → Record). record { at = f; history = record { call = c; reply = reply_to (lent s) c } ∷ r.history }) at

run_lent : (r : Ring (List ℕ)) (cs : List Call) → lent_ring (run lent_bytes r cs) ≡ run structs (lent_ring r) cs
unfolding run
run_lent r [] = refl
run_lent r (c ∷ cs) = run_lent (step lent_bytes r c) cs ∙ ap (λ s. run structs s cs) (step-lent r c)

pub account-lent : (founded : ℕ → List ℕ) → account_of lent_bytes founded ≡ account_of structs (λ p. lent (founded p))
account-lent founded =
    let runs : (λ calls. lent_ring (run lent_bytes (start founded) calls)) ≡ run structs (start (λ p. lent (founded p))) = fun_ext (λ calls. run_lent (start founded) calls) in
    ap (λ (f : List Call → Ring Record). record { history = λ calls. (f calls).history; reply = λ before c. reply_to ((f before).at (station_of c)) c; is_whole = λ calls p. whole ((f calls).at p) }) runs
