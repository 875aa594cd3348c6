use borrow.Author.Rules.{rules}
use native.Mathlib.Omega.{arith}
use mathlib.Core.Path.{◌≡◌}
use lib.ListN.{length}
use Rattle.frames.specs.Layout.{most_requests}
use Rattle.frames.specs.Token.{numbers_in}
use Rattle.frames.specs.declared.number.MessageNumber.{MessageNumber}
use Rattle.frames.proofs.NumberedLaws.{mapped}
use Rattle.frames.proofs.token.numbers_in.Goals as goal

pub returns : goal.returns
unfolding numbers_in
returns c =
    let places : length c.args.requests ≡ most_requests = search rules in
    let long : length c.map.result ≡ most_requests = c.map.ensures.items.long in
    let zero : MessageNumber = record { 0 = 0 } in
    mapped (λ (n : MessageNumber). n.0) _ _ zero (omega (arith, places, long)) (λ k b h. let called = (c.map.ensures.items.at k zero b (omega (arith, h, places))).2 in search rules)
