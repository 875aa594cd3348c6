-- What holds of every reply, call by call.
use Prim.Native.Nat.{ℕ, ◌≤◌, ◌<◌}
use mathlib.Core.Path.{◌≡◌, refl, sym, ap, ◌∙◌}
use mathlib.Core.Bool.{Bool, true, false≢true}
use mathlib.Core.List.{List, [], ◌∷◌, ◌++◌}
use borrow.Author.Tests.{leb-true, ltb-true}
use native.Mathlib.Omega.{arith}
use lib.ListN.{length}
use lib.Dec.{leb, ltb}
use Rattle.std.specs.Prelude.{Result, Ok}
use lib.Seq.{length-take-le}
use Rattle.frames.specs.Layout.{most_service, most_content}
use Rattle.frames.specs.Token.{token_bytes}
use Rattle.record.specs.Size.{most_posts}
use Rattle.record.specs.Members.{members_counted, ids_follow, own_among, ring_in_range, foundable}
use Rattle.record.specs.Posts.{waiting}
use Rattle.record.specs.Fresh.{fresh}
use Rattle.record.specs.Turn.{may_resend, remembered}
use Rattle.record.specs.Whole.{posts_in_range, whole}
use Rattle.record.specs.declared.Record.{Record}
use Rattle.record.proofs.RangeFacts.{posts-range}
use Rattle.record.proofs.FreshLaws.{fresh-whole}
use Rattle.record.proofs.PostLaws.{post-sizes, waiting-queued}
use Rattle.record.proofs.PostsWhole.{queued-in-range, queued-unused-zero}
use Rattle.record.proofs.WholeFacts.{whole-good, good-whole}
use Rattle.station.specs.Answer.{is_taken}
use Rattle.station.specs.Reply.{Reply, refused, asks}
use Rattle.visit.specs.Output.{most_frames}
use Rattle.station.specs.Found.{first_token, founded}
use Rattle.station.specs.Post.{with_post, posted}
use Rattle.station.specs.Resend.{resent}
use Rattle.station.specs.EveryReply.{Counted, KeepsWhole, Good, FoundedGood, PostedGood, ResentGood, FoundedWhole, PostedOne}
use Rattle.station.specs.declared.refusal.Refusal.{Refusal}
use Rattle.station.specs.declared.refusal.Refusal.TheVariants.{NoRoom, NotWhole, MemberCount, BadIds, NotAmong, BadRing, LongContent, OtherService, PostsFull, NothingToResend}
use Rattle.station.specs.declared.answer.Answer.{Answer}
use Rattle.station.specs.declared.answer.Answer.TheVariants.{Founded, Posted, Resent}
use Rattle.station.proofs.ReplyLaws.{asked}
use Rattle.station.proofs.FoundLaws.{foundable-when, first-length}

-- ---- a property of replies: if every refusal has it, and the reply has it when each question is answered 'yes', a call's reply has it

module _ (P : Reply → Type 0) (r : Record) (refuses : (why : Refusal) → P (refused r why)) where
  ask : (question : Bool) (why : Refusal) (rest : Reply) → (question ≡ true → P rest) → P (asks r question why rest)
  ask question why rest = asked P r question why rest (refuses why)

  pub founded-either : (room : Bool) (ids : List ℕ) (own ring : ℕ)
      → (foundable ids own ring ≡ true → P (record { answer = Ok Founded; rec = fresh ids own ring; frames = token_bytes (first_token ids ring); deliveries = [] }))
      → P (founded r room ids own ring)
  unfolding founded
  founded-either room ids own ring taken =
      ask room NoRoom _ (λ enough.
      ask (members_counted ids) MemberCount _ (λ counted.
      ask (ids_follow ids) BadIds _ (λ follow.
      ask (own_among ids own) NotAmong _ (λ among.
      ask (ring_in_range ring) BadRing _ (λ ranged.
      taken (foundable-when ids own ring counted follow among ranged))))))

  pub posted-either : (service : ℕ) (content : List ℕ)
      → (whole r ≡ true → length content ≤ most_content → service ≤ most_service → r.posts.count < most_posts
      → P (record { answer = Ok Posted; rec = with_post r service content; frames = []; deliveries = [] }))
      → P (posted r service content)
  unfolding posted
  posted-either service content taken =
      ask (whole r) NotWhole _ (λ w.
      ask (leb (length content) most_content) LongContent _ (λ short.
      ask (leb service most_service) OtherService _ (λ known.
      ask (ltb r.posts.count most_posts) PostsFull _ (λ room.
      taken w (leb-true _ _ short) (leb-true _ _ known) (ltb-true _ _ room)))))

  pub resent-either : (room : ℕ)
      → (whole r ≡ true → P (record { answer = Ok (Resent r.turn.size); rec = r; frames = remembered r.turn; deliveries = [] }))
      → P (resent r room)
  unfolding resent
  resent-either room taken =
      ask (leb most_frames room) NoRoom _ (λ enough.
      ask (whole r) NotWhole _ (λ w.
      ask (may_resend r.turn) NothingToResend _ (λ leave.
      taken w)))

-- ---- refusals are good; an answer that was taken is no refusal

pub refused-good : (r : Record) (why : Refusal) → Good r (refused r why)
refused-good r why = ((λ again e. ap (λ (a : Result Answer Refusal). record { answer = a; rec = r; frames = []; deliveries = [] }) e), (refl, refl), (λ w. w))

pub taken-good : (r : Record) (reply : Reply) → is_taken reply.answer ≡ true → Counted reply → KeepsWhole r reply → Good r reply
taken-good r reply taken counted keeps = ((λ why e. absurd (false≢true (sym (ap is_taken e) ∙ taken))), counted, keeps)

-- ---- founding

pub founded-good : FoundedGood
founded-good r room ids own ring =
    founded-either (Good r) r (refused-good r) room ids own ring
    (λ e. taken-good r _ refl (sym (first-length ids ring), refl) (λ w. fresh-whole ids own ring e))

pub founded-whole : FoundedWhole
founded-whole r room ids own ring =
    founded-either (λ reply. reply.answer ≡ Ok Founded → whole reply.rec ≡ true)
    r
    (λ why e. cc)
    room
    ids
    own
    ring
    (λ e answer. fresh-whole ids own ring e)

pub founded-taken-whole : (r : Record) (room : Bool) (ids : List ℕ) (own ring : ℕ) → is_taken (founded r room ids own ring).answer ≡ true → whole (founded r room ids own ring).rec ≡ true
founded-taken-whole r room ids own ring =
    founded-either (λ reply. is_taken reply.answer ≡ true → whole reply.rec ≡ true)
    r
    (λ why t. absurd (false≢true t))
    room
    ids
    own
    ring
    (λ e t. fresh-whole ids own ring e)

-- ---- posting

module _ (r : Record) (service : ℕ) (content : List ℕ) (w : whole r ≡ true) (short : length content ≤ most_content) (room : r.posts.count < most_posts) where
  posts-good : posts_in_range r.posts ≡ true
  posts-good = (whole-good r w).posts

  pub with-post-whole : service ≤ most_service → whole (with_post r service content) ≡ true
  with-post-whole known =
      let g = whole-good r w in
      good-whole (with_post r service content)
      (record {
        log = g.log;
        turn = g.turn;
        founded = g.founded;
        posts = queued-in-range r.posts service content room short posts-good known;
        posts-rest = queued-unused-zero r.posts service content room short posts-good g.posts-rest;
        panel = g.panel;
      })

  with-post-one : waiting (with_post r service content).posts ≡ waiting r.posts ++ (record { service = service; content = content } ∷ [])
  with-post-one = waiting-queued r.posts service content (post-sizes r.posts (posts-range r.posts posts-good)) room short

pub posted-good : PostedGood
posted-good r service content =
    posted-either (Good r) r (refused-good r) service content
    (λ w short known room. taken-good r _ refl (refl, refl) (λ again. with-post-whole r service content w short room known))

pub posted-one : PostedOne
posted-one r service content =
    posted-either (λ reply. reply.answer ≡ Ok Posted → waiting reply.rec.posts ≡ waiting r.posts ++ (record { service = service; content = content } ∷ []))
    r
    (λ why e. cc)
    service
    content
    (λ w short known room answer. with-post-one r service content w short room)

-- ---- resending

remembered-long : (r : Record) → whole r ≡ true → length (remembered r.turn) ≡ r.turn.size
remembered-long r w =
    let range = (whole-good r w).turn.range in
    length-take-le r.turn.size r.turn.token (omega (arith, range.token-long, range.size))

pub resent-good : ResentGood
resent-good r room =
    resent-either (Good r) r (refused-good r) room (λ w. taken-good r _ refl (sym (remembered-long r w), refl) (λ again. w))
