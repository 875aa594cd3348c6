-- A refusal over C alters no lent byte.
use Prim.Native.Nat.{ℕ}
use mathlib.Core.Path.{◌≡◌, refl, sym, ap, ◌∙◌}
use mathlib.Core.Bool.{Bool, true, false}
use mathlib.Core.List.{List}
use borrow.Author.Tests.{eqb-true}
use Rattle.record.specs.Lent.{no_record, lent}
use Rattle.record.specs.declared.Record.{Record}
use Rattle.visit.specs.Output.{followed_by}
use Rattle.station.specs.Answer.{outcome_of, is_taken}
use Rattle.station.specs.Reply.{Reply, refused, station_after}
use Rattle.station.specs.EveryReply.{LeavesAll}
use Rattle.station.specs.Over.{found_in, post_over, arrive_over, resend_over}
use Rattle.station.specs.declared.refusal.Refusal.{Refusal}
use Rattle.station.specs.declared.answer.Outcome.{Outcome}
use Rattle.station.proofs.OutcomeLaws.{taken-by-number}
use Rattle.station.proofs.ThereLaws.{not_taken}
use Rattle.station.proofs.ReplyGood.{founded-good, posted-good, resent-good}
use Rattle.station.proofs.ArrivedGood.{arrived-good}
use Rattle.totem.specs.Demand.{Unaltered, Demand₁}

refusal-leaves : (r : Record) (why : Refusal) (s : List ℕ) → station_after (refused r why) s ≡ s
refusal-leaves r why s = refl

unaltered : (r : Record) (reply : Reply) → LeavesAll r reply → Unaltered reply
unaltered r reply leaves o s s' f f' d d' does some = go (is_taken reply.answer) refl
  where
    go : (b : Bool) → is_taken reply.answer ≡ b → (s' ≡ s) × (f' ≡ f) × (d' ≡ d) × (o.outcome ≡ 0) × (o.frames ≡ 0) × (o.deliveries ≡ 0) × (o.deaf ≡ 0)
    go true t = absurd (some (ap (λ (x : Outcome). x.refusal) does.answers ∙ eqb-true (outcome_of reply.answer).refusal 0 (sym (taken-by-number reply.answer) ∙ t)))
    go false t =
        let no = not_taken reply.answer t in
        let e = leaves no.0 no.1 in
        let said : o ≡ outcome_of (refused r no.0).answer = does.answers ∙ ap (λ (x : Reply). outcome_of x.answer) e in (
          does.station ∙ ap (λ (x : Reply). station_after x s) e ∙ refusal-leaves r no.0 s,
          does.frames ∙ ap (λ (x : Reply). followed_by x.frames f) e,
          does.deliveries ∙ ap (λ (x : Reply). followed_by x.deliveries d) e,
          ap (λ (x : Outcome). x.outcome) said,
          ap (λ (x : Outcome). x.frames) said,
          ap (λ (x : Outcome). x.deliveries) said,
          ap (λ (x : Outcome). x.deaf) said,
        )

pub demand-1 : Demand₁
unfolding found_in post_over arrive_over resend_over
demand-1 =
    record {
      founding = λ s members own ring room. unaltered no_record _ (founded-good no_record _ _ own ring).0;
      posting = λ s service content. unaltered (lent s) _ (posted-good (lent s) service content).0;
      arrival = λ s frame frames deliveries. unaltered (lent s) _ (arrived-good (lent s) frame frames deliveries).0;
      resending = λ s room. unaltered (lent s) _ (resent-good (lent s) room).0;
    }
