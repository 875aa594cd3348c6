use Prim.Native.Nat.{◌≤◌}
use mathlib.Core.Path.{◌≡◌, sym, ◌∙◌}
use mathlib.Core.Bool.{true}
use native.Mathlib.Omega.{arith}
use lib.ListN.{length}
use borrow.Author.Tests.{not-true, not-false}
use Rattle.frames.specs.Token.{request_numbers, token_follows}
use Rattle.frames.proofs.Facts.{token-facts}
use Rattle.frames.proofs.Sizes.{token-length}
use Rattle.frames.proofs.WriteLaws.{write-malformed, write-roomless, write-counted, token-put}
use Rattle.frames.proofs.writer.write_token.Goals as goal
use Rattle.frames.proofs.writer.write_token.Goals.{Else-not-token_follows}

follows : (c : Else-not-token_follows) → token_follows c.args.t ≡ true
follows c = sym c.token_follows.ensures ∙ not-false _ c.if-not-token_follows.false-raw

few : (c : Else-not-token_follows) → c.args.t.count ≤ length (request_numbers c.args.t)
few c = let facts = (token-facts _ (follows c)).requests in omega (arith, facts.few, facts.places)

pub returns-then-not-token_follows : goal.returns-then-not-token_follows
returns-then-not-token_follows c =
    let h = write-malformed _ _ _ (sym c.token_follows.ensures ∙ not-true _ c.if-not-token_follows.true-raw) in
    record { result_value = h.0; out_after = h.1 }

pub returns-then-out-size : goal.returns-then-out-size
returns-then-out-size c =
    let h = write-roomless _ _ _ _ (follows (goal.at.returns-then-out-size c).Else-not-token_follows) (token-length _ (few (goal.at.returns-then-out-size c).Else-not-token_follows) ∙ sym c.token_size-size.ensures) c.if-out-size.true in
    record { result_value = h.0; out_after = h.1 }

pub returns : goal.returns
returns c =
    record {
      result_value = write-counted _ _ _ _ (follows (goal.at.returns c).Else-not-token_follows) (token-length _ (few (goal.at.returns c).Else-not-token_follows) ∙ sym c.token_size-size.ensures) c.if-out-size.false;
      out_after = c.put_token.ensures ∙ token-put _ _ (follows (goal.at.returns c).Else-not-token_follows) (omega (arith, c.token_size-size.ensures, c.if-out-size.false));
    }
