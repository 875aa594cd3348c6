use Rattle.std.proofs.Common.{◌≡◌, ℕ, List, [], ◌∷◌, Bor, Option, None, Some, refl, ◌∙◌, ap, map}
use Rattle.std.specs.List.{last_or}
use Rattle.std.specs.Option.{unwrap_or}
use Rattle.std.proofs.lemmas.Iterator.{items_from_drains}
use Rattle.std.proofs.lemmas.Iterator.Consumers.{YieldsList-from_first}
use Rattle.visit.specs.Within.{frames_in}
use Rattle.ring.specs.Newest.{last_of}
use Rattle.ring.specs.declared.broadcasts.Frames.{Frames}
use Rattle.ring.proofs.broadcasts.newest_token.Goals as goal

last-is : (d : Bor (List ℕ)) (xs : List (Bor (List ℕ))) (o : Option (Bor (List ℕ))) → (unwrap_or (last_or o xs) d).now ≡ last_of (unwrap_or o d).now (map (λ (x : Bor (List ℕ)). x.now) xs)
last-is d [] o = refl
last-is d (x ∷ xs) o = last-is d xs (Some x)

pub returns : goal.returns
returns c =
    let ran = c.last.ensures.ran in
    let all = YieldsList-from_first (λ (x : Bor (List ℕ)). x.now) (λ (s : Frames). frames_in s.rest.now) (frames_in c.args.written.now) (ap frames_in c.new.ensures) in
    let items : map (λ (x : Bor (List ℕ)). x.now) ran.0 ≡ frames_in c.args.written.now = items_from_drains ran.0 (ran.1.1.0, ran.1.1.1, λ w. (ran.1.0, ran.1.1.2)) all in
    rw (c.unwrap_or.ensures, ran.2) (last-is _ ran.0 None ∙ rw items refl)
