-- A call by value goes over bytes: what it answers and leaves is what the call on the record does.
use Prim.Native.Nat.{ℕ}
use mathlib.Core.Path.{◌≡◌, refl, sym, ap, ◌∙◌, subst}
use mathlib.Core.Bool.{Bool, true, false, false≢true, ◌&&◌}
use mathlib.Core.List.{List, [], append-nil}
use borrow.Author.Tests.{le-leb}
use native.Mathlib.Omega.{arith}
use lib.ListN.{length, drop_of_length-le, length-replicate}
use lib.Dec.{leb}
use Rattle.std.specs.Prelude.{Result, Err}
use lib.Seq.{length-take-le}
use Rattle.words.specs.Word.{word_at, word_of}
use Rattle.frames.specs.Layout.{shortest_token}
use Rattle.record.specs.Layout.{record_size}
use Rattle.record.specs.Members.{members_counted, ids_follow, own_among, ring_in_range}
use Rattle.record.specs.Bytes.{record_bytes, log_of, record_of}
use Rattle.record.specs.Lent.{no_record, lent}
use Rattle.record.specs.Whole.{whole}
use Rattle.record.specs.declared.Record.{Record}
use Rattle.record.proofs.MemberLaws.{foundable-facts}
use Rattle.record.proofs.WholeFacts.{whole-good}
use Rattle.record.proofs.LentLaws.{lent_of}
use Rattle.record.proofs.RoundTrip.{record-restored}
use Rattle.visit.specs.Output.{followed_by}
use Rattle.station.specs.Answer.{is_taken}
use Rattle.station.specs.Reply.{Reply, refused, asks, done_of, answered, Does}
use Rattle.station.specs.EveryReply.{Good}
use Rattle.station.specs.Found.{founded, founded_on}
use Rattle.station.specs.Post.{posted}
use Rattle.station.specs.Resend.{resent}
use Rattle.station.specs.Arrive.{arrived}
use Rattle.station.specs.Over.{found_in, post_over, arrive_over, resend_over}
use Rattle.station.specs.inner.Value.{zeros, lent_by, settled}
use Rattle.station.specs.declared.refusal.Refusal.{Refusal}
use Rattle.station.specs.declared.refusal.Refusal.TheVariants.{NoRoom, NotWhole, MemberCount, BadIds, NotAmong, BadRing}
use Rattle.station.specs.declared.answer.Answer.{Answer}
use Rattle.station.proofs.ThereLaws.{not_taken}
use Rattle.station.proofs.ReplyGood.{founded-good, founded-taken-whole, posted-good, resent-good}
use Rattle.station.proofs.PostLaws.{posted-not-whole}
use Rattle.station.proofs.ResendLaws.{resent-not-whole}
use Rattle.station.proofs.ArriveLaws.{arrived-not-whole}
use Rattle.station.proofs.ArrivedGood.{arrived-good}

zeros-long : length zeros ≡ record_size
zeros-long = length-replicate {A = ℕ} record_size 0

no-members : (record_of zeros).log.count ≡ 0
unfolding record_of log_of word_at word_of
no-members = refl

zeros-none : whole (lent zeros) ≡ false
zeros-none = go (whole (lent zeros)) refl
  where
    go : (b : Bool) → whole (lent zeros) ≡ b → whole (lent zeros) ≡ false
    go false e = e
    go true w =
        let some = (foundable-facts _ _ _ (whole-good (lent zeros) w).founded).some in
        let none : (lent zeros).log.count ≡ 0 = ap (λ (r : Record). r.log.count) (lent_of zeros zeros-long) ∙ no-members in
        absurd (omega (arith, length-take-le (lent zeros).log.count (lent zeros).log.members (omega (arith, none)), none, some))

module _ (r : Record) (a : Result Answer Refusal) (s' : List ℕ) where
  -- where the call was refused, the record stays
  stays : (why : Refusal) → a ≡ Err why → settled r a s' ≡ record { answer = Err why; rec = r }
  stays why e = rw e

  left : is_taken a ≡ true → settled r a s' ≡ record { answer = a; rec = record_of s' }
  left t = rw t

-- ---- posting, arrival and resending

module _ (call : Record → Reply) (why : Refusal)
    (none : (r : Record) → whole r ≡ false → call r ≡ refused r why)
    (good : (r : Record) → Good r (call r))
    (r : Record) (s : List ℕ) (lends : s ≡ lent_by r zeros) where
  own-bytes : whole r ≡ true → s ≡ record_bytes r
  own-bytes w = lends ∙ rw (w, drop_of_length-le zeros {i = record_size} (omega (arith, zeros-long)), append-nil)

  there : whole r ≡ true → lent s ≡ r
  there w = let restored = record-restored r w in ap lent (own-bytes w) ∙ lent_of (record_bytes r) restored.1 ∙ restored.0

  pub by_value : (a : Result Answer Refusal) (s' frames frames' deliveries deliveries' : List ℕ)
      → Does answered (call (lent s)) a s s' frames frames' deliveries deliveries'
      → (settled r a s' ≡ done_of (call r)) × (frames' ≡ followed_by (call r).frames frames) × (deliveries' ≡ followed_by (call r).deliveries deliveries)
  by_value a s' frames frames' deliveries deliveries' does = go (whole r) refl
    where
      go : (b : Bool) → whole r ≡ b → (settled r a s' ≡ done_of (call r)) × (frames' ≡ followed_by (call r).frames frames) × (deliveries' ≡ followed_by (call r).deliveries deliveries)
      go true w =
          let d : Does answered (call r) a s s' frames frames' deliveries deliveries' = subst (λ (x : Record). Does answered (call x) a s s' frames frames' deliveries deliveries') (there w) does in
          (taken-or-not d (is_taken (call r).answer) refl, d.frames, d.deliveries)
        where
          taken-or-not : Does answered (call r) a s s' frames frames' deliveries deliveries' → (t : Bool) → is_taken (call r).answer ≡ t → settled r a s' ≡ done_of (call r)
          taken-or-not d true t =
              let long : length s ≡ record_size = ap length (own-bytes w) ∙ (record-restored r w).1 in
              let bytes : s' ≡ record_bytes (call r).rec = d.station ∙ rw (t, drop_of_length-le s {i = record_size} (omega (arith, long)), append-nil) in
              let back = (record-restored (call r).rec ((good r).2 w)).0 in
              left r a s' (ap is_taken d.answers ∙ t) ∙ rw (d.answers, bytes, back) refl
          taken-or-not d false t =
              let no = not_taken (call r).answer t in
              stays r a s' no.0 (d.answers ∙ no.1) ∙ sym (ap done_of ((good r).0 no.0 no.1))
      go false w =
          let zero-bytes : s ≡ zeros = lends ∙ rw w in
          let not_there : call (lent s) ≡ refused (lent s) why = none (lent s) (ap (λ (x : List ℕ). whole (lent x)) zero-bytes ∙ zeros-none) in
          let d : Does answered (refused (lent s) why) a s s' frames frames' deliveries deliveries' = subst (λ (x : Reply). Does answered x a s s' frames frames' deliveries deliveries') not_there does in
          rw (none r w) (stays r a s' why d.answers, d.frames, d.deliveries)

module _ (r : Record) (s s' : List ℕ) (lends : s ≡ lent_by r zeros) (a : Result Answer Refusal) where
  pub posted-by-value : (service : ℕ) (content : List ℕ)
      → Does answered (post_over s service content) a s s' [] [] [] []
      → settled r a s' ≡ done_of (posted r service content)
  unfolding post_over
  posted-by-value service content does =
      (by_value (λ q. posted q service content) NotWhole (λ q e. posted-not-whole q service content e) (λ q. posted-good q service content) r s lends a s' [] [] [] [] does).0

  pub arrived-by-value : (frame frames frames' deliveries deliveries' : List ℕ)
      → Does answered (arrive_over s frame (length frames) (length deliveries)) a s s' frames frames' deliveries deliveries'
      → (settled r a s' ≡ done_of (arrived r frame (length frames) (length deliveries)))
      × (frames' ≡ followed_by (arrived r frame (length frames) (length deliveries)).frames frames)
      × (deliveries' ≡ followed_by (arrived r frame (length frames) (length deliveries)).deliveries deliveries)
  unfolding arrive_over
  arrived-by-value frame frames frames' deliveries deliveries' does =
      by_value (λ q. arrived q frame (length frames) (length deliveries)) _ (λ q e. arrived-not-whole q frame (length frames) (length deliveries) e) (λ q. arrived-good q frame (length frames) (length deliveries)) r s lends a s' frames frames' deliveries deliveries' does

  pub resent-by-value : (frames frames' : List ℕ)
      → Does answered (resend_over s (length frames)) a s s' frames frames' [] []
      → (settled r a s' ≡ done_of (resent r (length frames))) × (frames' ≡ followed_by (resent r (length frames)).frames frames)
  unfolding resend_over
  resent-by-value frames frames' does =
      let d = by_value (λ q. resent q (length frames)) _ (λ q e. resent-not-whole q (length frames) e) (λ q. resent-good q (length frames)) r s lends a s' frames frames' [] [] does in
      (d.0, d.1)

-- ---- founding, whatever record was there before

record Alike (a b : Reply) : Type 0 where
  answer : a.answer ≡ b.answer
  frames : a.frames ≡ b.frames
  rec : is_taken a.answer ≡ true → a.rec ≡ b.rec

module _ (r q : Record) where
  ask-alike : (question : Bool) (why : Refusal) (a b : Reply) → Alike a b → Alike (asks r question why a) (asks q question why b)
  ask-alike true why a b e = e
  ask-alike false why a b e = record { answer = refl; frames = refl; rec = λ t. absurd (false≢true t) }

  founded-alike : (room : Bool) (ids : List ℕ) (own ring : ℕ) → Alike (founded r room ids own ring) (founded q room ids own ring)
  unfolding founded
  founded-alike room ids own ring =
      ask-alike room NoRoom _ _
      (ask-alike (members_counted ids) MemberCount _ _
      (ask-alike (ids_follow ids) BadIds _ _
      (ask-alike (own_among ids own) NotAmong _ _
      (ask-alike (ring_in_range ring) BadRing _ _ (record { answer = refl; frames = refl; rec = λ t. refl })))))

in-room : (ids : List ℕ) (own ring room : ℕ) → found_in zeros ids own ring room ≡ founded no_record (leb shortest_token room) ids own ring
unfolding found_in
in-room ids own ring room =
    let long : leb record_size (length zeros) ≡ true = le-leb record_size (length zeros) (omega (arith, zeros-long)) in
    ap (λ (b : Bool). founded no_record (b && leb shortest_token room) ids own ring) long

pub founded-by-value : (r : Record) (ids : List ℕ) (own ring : ℕ) (a : Result Answer Refusal) (s' token token' : List ℕ)
    → Does answered (found_in zeros ids own ring (length token)) a zeros s' token token' [] []
    → (settled r a s' ≡ done_of (founded_on r (length token) ids own ring)) × (token' ≡ followed_by (founded_on r (length token) ids own ring).frames token)
founded-by-value r ids own ring a s' token token' does =
    let fits = leb shortest_token (length token) in
    let d : Does answered (founded no_record fits ids own ring) a zeros s' token token' [] [] = subst (λ (x : Reply). Does answered x a zeros s' token token' [] []) (in-room ids own ring (length token)) does in
    let same = founded-alike no_record r fits ids own ring in
    (go d same (is_taken (founded r fits ids own ring).answer) refl, d.frames ∙ ap (λ (x : List ℕ). followed_by x token) same.frames)
  where
    go : Does answered (founded no_record (leb shortest_token (length token)) ids own ring) a zeros s' token token' [] []
        → Alike (founded no_record (leb shortest_token (length token)) ids own ring) (founded r (leb shortest_token (length token)) ids own ring)
        → (t : Bool) → is_taken (founded r (leb shortest_token (length token)) ids own ring).answer ≡ t → settled r a s' ≡ done_of (founded_on r (length token) ids own ring)
    go d same true t =
        let yes : is_taken (founded no_record (leb shortest_token (length token)) ids own ring).answer ≡ true = ap is_taken same.answer ∙ t in
        let bytes : s' ≡ record_bytes (founded no_record (leb shortest_token (length token)) ids own ring).rec = d.station ∙ rw (yes, drop_of_length-le zeros {i = record_size} (omega (arith, zeros-long)), append-nil) in
        let says : a ≡ (founded r (leb shortest_token (length token)) ids own ring).answer = d.answers ∙ same.answer in
        let whole-one = founded-taken-whole r (leb shortest_token (length token)) ids own ring t in
        let back = (record-restored (founded r (leb shortest_token (length token)) ids own ring).rec whole-one).0 in
        left r a s' (ap is_taken says ∙ t) ∙ rw (says, bytes, same.rec yes, back) refl
    go d same false t =
        let no = not_taken (founded r (leb shortest_token (length token)) ids own ring).answer t in
        stays r a s' no.0 (d.answers ∙ same.answer ∙ no.1) ∙ sym (ap done_of ((founded-good r (leb shortest_token (length token)) ids own ring).0 no.0 no.1))
