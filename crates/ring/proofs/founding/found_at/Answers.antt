use mathlib.Core.Path.{◌≡◌}
use Prim.Native.Nat.{ℕ}
use mathlib.Core.List.{List}
use lib.ListN.{length, get_or}
use Rattle.std.proofs.lemmas.Option.{unwrap_or-slice_get}
use Rattle.station.specs.Answer.{outcome_of}
use Rattle.station.specs.Reply.{Reply}
use Rattle.visit.specs.Output.{followed_by}
use Rattle.station.specs.Over.{found_over, ids_in}
use Rattle.ring.proofs.places.PlaceLaws.{said_at, left_at}
use Rattle.ring.proofs.places.FoundingLaws.{own_at}
use Rattle.ring.proofs.founding.found_at.Goals as goal

pub returns : goal.returns
returns c =
    let args = c.args in
    let own = c.unwrap_or-own.result in
    let mine : own ≡ get_or (ids_in args.list.now) args.place 0 = rw (c.unwrap_or-own.ensures, c.id_at.ensures) (unwrap_or-slice_get (ids_in args.list.now) args.place 0) in
    let at : (P : List ℕ → Type 0) → P _ → P _ = said_at args.place args.records.now c.start_of-from.result c.end_of-end.result c.start_of-from.ensures c.end_of-end.ensures in
    let reply : List ℕ → Reply = λ s. found_over s args.list.now own args.ring.0 (length args.token.now) in
    own_at args.place args.records.now args.list.now args.ring.0 args.token.now own mine _ _ _ (
      at (λ s. c.totem_found.result ≡ outcome_of (reply s).answer) c.totem_found.ensures.answers,
      left_at args.place args.records.now c.start_of-from.result c.end_of-end.result c.start_of-from.ensures c.end_of-end.ensures reply _ c.totem_found.ensures.station,
      at (λ s. c.totem_found.new.token ≡ followed_by (reply s).frames args.token.now) c.totem_found.ensures.frames,
    )
