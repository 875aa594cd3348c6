use borrow.Author.Rules.{rules}
use mathlib.Core.Path.{◌≡◌}
use lib.ListN.{length}
use Rattle.frames.specs.Layout.{longest_token}
use Rattle.record.specs.Size.{most_posts}
use Rattle.record.proofs.Arrays.{HeadArrays}
use Rattle.record.proofs.PutLaws.{head-stored}
use Rattle.record.proofs.bytes.put_showing.Goals as goal

pub returns : goal.returns
returns c =
    let log : HeadArrays c.args.h.log =
    record {
      members = search rules;
      senders = search rules;
      services = search rules;
      lengths = search rules;
    } in
    let token : length c.args.h.turn.token ≡ longest_token = search rules in
    let services : length c.args.h.posts.services ≡ most_posts = search rules in
    let lengths : length c.args.h.posts.lengths ≡ most_posts = search rules in
    head-stored _ _ _ _ _ _ _ _ log token services lengths c.requires c.put.ensures c.put-2.ensures c.put_log_head.ensures c.put_turn.ensures c.put_posts_head.ensures
