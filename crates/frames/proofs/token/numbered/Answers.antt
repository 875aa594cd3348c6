use borrow.Author.Rules.{rules}
use native.Mathlib.Omega.{arith}
use mathlib.Core.Path.{◌≡◌}
use lib.ListN.{length}
use Rattle.frames.specs.Layout.{most_requests}
use Rattle.frames.specs.Token.{numbered}
use Rattle.frames.specs.declared.number.MessageNumber.{MessageNumber}
use Rattle.frames.proofs.NumberedLaws.{mapped}
use Rattle.frames.proofs.token.numbered.Goals as goal

pub returns : goal.returns
unfolding numbered
returns c =
    let places : length c.args.numbers ≡ most_requests = search rules in
    let long : length c.map.result ≡ most_requests = c.map.ensures.items.long in
    mapped {B = MessageNumber} (λ n. record { 0 = n }) _ _ 0 (omega (arith, places, long)) (λ k b h. let called = (c.map.ensures.items.at k 0 b (omega (arith, h, places))).2 in search rules)
