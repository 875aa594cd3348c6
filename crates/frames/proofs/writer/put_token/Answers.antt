use Prim.Native.Nat.{◌<◌, ◌≤◌}
use mathlib.Core.Path.{◌≡◌, sym, ap, ◌∙◌}
use native.Mathlib.Omega.{arith}
use borrow.Author.Rules.{rules}
use lib.ListN.{length, take}
use Rattle.frames.specs.Layout.{most_requests}
use Rattle.frames.specs.Token.{request_numbers}
use Rattle.frames.proofs.Sizes.{token-length}
use Rattle.frames.proofs.WriteLaws.{put-long, put-short, put-roomless, token-taken}
use Rattle.frames.proofs.writer.put_token.Goals as goal
use Rattle.frames.proofs.writer.put_token.Goals.{In-Some}

few : (c : In-Some) → c.args.t.count ≤ length c.numbers_in-numbers.result
few c = search rules

places : (c : In-Some) → length c.numbers_in-numbers.result ≡ most_requests
places c = search rules

few' : (c : In-Some) → c.args.t.count ≤ length (request_numbers c.args.t)
few' c = rw (ap length c.numbers_in-numbers.ensures) at (few c)

pub returns-in_default : goal.returns-in_default
returns-in_default c =
    let places : length c.numbers_in-numbers.result ≡ most_requests = search rules in
    let many : length c.numbers_in-numbers.result < c.args.t.count = search rules in
    put-long _ _ (omega (arith, many, places))

pub returns-then-out-token_size : goal.returns-then-out-token_size
returns-then-out-token_size c =
    let some = (goal.at.returns-then-out-token_size c).In-Some in
    put-roomless _ _ _ (token-length _ (few' some) ∙ sym c.token_size.ensures) c.if-out-token_size.true ∙ put-short _ _ (omega (arith, few some, places some))

pub returns : goal.returns
returns c =
    let some = (goal.at.returns c).In-Some in
    let asked : c.in-Some.requests.now ≡ take c.args.t.count c.numbers_in-numbers.result = search rules in
    token-taken _ _ _ _ _ c.numbers_in-numbers.ensures (omega (arith, few some, places some)) (omega (arith, c.token_size.ensures, c.if-out-token_size.false)) (few' some) c.put_token_fixed.ensures (rw asked at c.put_run.ensures)
