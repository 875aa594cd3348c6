-- What a call on lent bytes does, once it is known what its reply is.
use Prim.Native.Nat.{ℕ}
use mathlib.Core.Path.{◌≡◌, sym, ap, ◌∙◌}
use mathlib.Core.Bool.{true}
use mathlib.Core.List.{List, [], append-nil}
use native.Mathlib.Omega.{arith}
use lib.ListN.{length, drop, drop_of_length-le}
use Rattle.std.specs.Prelude.{Result, Err}
use Rattle.record.specs.Layout.{record_size}
use Rattle.record.specs.Bytes.{record_bytes}
use Rattle.record.specs.declared.Record.{Record}
use Rattle.visit.specs.Output.{followed_by}
use Rattle.station.specs.Answer.{is_taken}
use Rattle.station.specs.Reply.{Reply, refused, station_after, answered, Does}
use Rattle.station.specs.declared.refusal.Refusal.{Refusal}
use Rattle.station.specs.declared.answer.Answer.{Answer}

-- a refusal leaves the bytes
pub refuses : (reply : Reply) (r : Record) (why : Refusal) (s frames deliveries : List ℕ) → reply ≡ refused r why → Does answered reply (Err why) s s frames frames deliveries deliveries
refuses reply r why s frames deliveries e =
    record {
      answers = sym (ap (λ (x : Reply). x.answer) e);
      station = sym (ap (λ (x : Reply). station_after x s) e);
      frames = sym (ap (λ (x : Reply). followed_by x.frames frames) e);
      deliveries = sym (ap (λ (x : Reply). followed_by x.deliveries deliveries) e);
    }

-- a call that is taken leaves its record's bytes, where they are a record's
pub takes : (reply : Reply) (a : Result Answer Refusal) (s s' frames frames' deliveries deliveries' : List ℕ)
    → is_taken reply.answer ≡ true
    → length s ≡ record_size
    → a ≡ reply.answer
    → s' ≡ record_bytes reply.rec
    → frames' ≡ followed_by reply.frames frames
    → deliveries' ≡ followed_by reply.deliveries deliveries
    → Does answered reply a s s' frames frames' deliveries deliveries'
takes reply a s s' frames frames' deliveries deliveries' taken long says leaves writes hands =
    let none : drop record_size s ≡ [] = drop_of_length-le s {i = record_size} (omega (arith, long)) in
    let left : station_after reply s ≡ record_bytes reply.rec = rw (taken, none, append-nil) in
    record { answers = says; station = leaves ∙ sym left; frames = writes; deliveries = hands }

-- the reply by another name
pub known : (reply other : Reply) (a : Result Answer Refusal) (s s' frames frames' deliveries deliveries' : List ℕ)
    → reply ≡ other
    → Does answered other a s s' frames frames' deliveries deliveries'
    → Does answered reply a s s' frames frames' deliveries deliveries'
known reply other a s s' frames frames' deliveries deliveries' e d = rw e d

-- a call that writes no frames leaves a buffer for them as it is
pub no_frames : (reply : Reply) (a : Result Answer Refusal) (s s' frames deliveries deliveries' : List ℕ)
    → reply.frames ≡ []
    → Does answered reply a s s' [] [] deliveries deliveries'
    → Does answered reply a s s' frames frames deliveries deliveries'
no_frames reply a s s' frames deliveries deliveries' e d =
    record { answers = d.answers; station = d.station; frames = sym (ap (λ (x : List ℕ). followed_by x frames) e); deliveries = d.deliveries }
