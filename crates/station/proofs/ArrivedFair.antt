-- Busy posts get their turn, at every accepted token.
use Prim.Native.Nat.{ℕ, ◌<◌}
use mathlib.Core.Path.{◌≡◌, refl, sym, ap, ◌∙◌}
use mathlib.Core.List.{List}
use native.Mathlib.Omega.{arith}
use Rattle.std.specs.Prelude.{Result, Ok, Err}
use Rattle.frames.specs.Message.{content_of}
use Rattle.frames.specs.Read.{read_of, a_token}
use Rattle.frames.specs.declared.message.Message.{Message}
use Rattle.frames.specs.declared.token.Token.{Token}
use Rattle.record.specs.Posts.{taken}
use Rattle.record.specs.declared.Record.{Record}
use Rattle.visit.specs.Message.{heard_of}
use Rattle.visit.specs.Visit.{Visit, waits, new_count, rec'}
use Rattle.visit.specs.Acceptable.{visit}
use Rattle.visit.specs.declared.hearing.Hearing.{Hearing}
use Rattle.visit.specs.declared.hearing.Hearing.TheVariants.{WasHad, IsAhead, IsKept}
use Rattle.visit.proofs.VisitFacts.{new-posts}
use Rattle.visit.proofs.ShareLaws.{within-share, one-sent}
use Rattle.station.specs.Reply.{Reply, refused}
use Rattle.station.specs.Arrive.{heard_answer, message_heard, accepted, arrived}
use Rattle.station.specs.EveryArrival.{ArrivedCase, refuses, hears, accepts}
use Rattle.station.specs.Fair.{newly_sent, FairlySent, ArrivedFair}
use Rattle.station.specs.declared.refusal.Refusal.{Refusal}
use Rattle.station.specs.declared.answer.Answer.{Answer}
use Rattle.station.specs.declared.answer.Answer.TheVariants.{Accepted}
use Rattle.station.proofs.ArrivedCases.{arrived-case}

-- ---- the posts that wait no longer are the new messages

sent-new : (v : Visit) → newly_sent v.rec (accepted v) ≡ new_count v
unfolding accepted rec' taken
sent-new v = omega (arith, new-posts v)

fairly : (v : Visit) → 0 < waits v → FairlySent v (new_count v)
fairly v some =
    record {
      most = within-share v some;
      least = λ none allowed. one-sent v some none allowed.round allowed.window allowed.numbers;
    }

-- ---- nothing else is answered so

refused-not-taken : (why : Refusal) (what : Answer) → ◌≡◌ {A = Result Answer Refusal} (Err why) (Ok what) → ⊥
refused-not-taken why what e = cc

not-heard : (how : Hearing) (size written handed deaf : ℕ) → ◌≡◌ {A = Result Answer Refusal} (Ok (heard_answer how size)) (Ok (Accepted written handed deaf)) → ⊥
not-heard WasHad size written handed deaf e = cc
not-heard IsAhead size written handed deaf e = cc
not-heard IsKept size written handed deaf e = cc

message-answer : (r : Record) (m : Message) (content : List ℕ) → (message_heard r m content).answer ≡ Ok (heard_answer (heard_of r m content).how (heard_of r m content).size)
unfolding message_heard
message-answer r m content = refl

case-fair : (r : Record) (frame : List ℕ) (reply : Reply) (written handed deaf : ℕ)
    → ArrivedCase r frame reply
    → reply.answer ≡ Ok (Accepted written handed deaf)
    → 0 < r.posts.count
    → (t : Token) × (read_of frame ≡ a_token t) × FairlySent (visit r t) (newly_sent r reply)
case-fair r frame reply written handed deaf (refuses why e) f some =
    let no : (refused r why).answer ≡ Ok (Accepted written handed deaf) = ap (λ (x : Reply). x.answer) (sym e) ∙ f in absurd (refused-not-taken why _ no)
case-fair r frame reply written handed deaf (hears m read h e) f some =
    absurd (not-heard (heard_of r m (content_of frame)).how (heard_of r m (content_of frame)).size written handed deaf
    (sym (message-answer r m (content_of frame)) ∙ ap (λ (x : Reply). x.answer) (sym e) ∙ f))
case-fair r frame reply written handed deaf (accepts t read a e) f some =
    (t, read, rw (e, sent-new (visit r t)) (fairly (visit r t) some))

pub arrived-fair : ArrivedFair
arrived-fair r frame frames deliveries written handed deaf = case-fair r frame (arrived r frame frames deliveries) written handed deaf (arrived-case r frame frames deliveries)
