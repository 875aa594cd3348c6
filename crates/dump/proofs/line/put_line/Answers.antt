use mathlib.Core.Path.{◌≡◌}
use borrow.Author.Rules.{rules}
use Rattle.frames.specs.Read.{read_of, unread_as, a_message, a_token}
use Rattle.dump.proofs.LineLaws.{line-whole, refused-put, message-put, token-put}
use Rattle.dump.proofs.line.put_line.Goals as goal

pub returns-in-Err : goal.returns-in-Err
returns-in-Err c = let says : read_of c.args.frame.now ≡ unread_as c.in-Err.why = search rules in search (line-whole, refused-put)

pub returns-in-Ok-Message : goal.returns-in-Ok-Message
returns-in-Ok-Message c = let says : read_of c.args.frame.now ≡ a_message c.in-Ok-Message.m = search rules in search (line-whole, message-put)

pub returns-in-Ok-Token : goal.returns-in-Ok-Token
returns-in-Ok-Token c = let says : read_of c.args.frame.now ≡ a_token c.in-Ok-Token.t = search rules in search (line-whole, token-put)
