-- Every row of the trials of steps 1, 4 and 6 passes.
use mathlib.Core.Path.{◌≡◌, refl}
use mathlib.Core.Bool.{true}
use mathlib.Core.List.{flatten}
use Rattle.words.specs.Word.{word_bytes}
use Rattle.words.specs.Run.{bytes_as}
use Rattle.words.specs.Scan.{every}
use Rattle.frames.specs.Header.{header_bytes}
use Rattle.frames.specs.Token.{numbers_in, numbered, token_fixed}
use Rattle.record.specs.Count.{those, numbers_after}
use Rattle.record.specs.Panel.{undelivered}
use Rattle.record.specs.Held.{holds, held_numbers, held_with, cleared, cleared_from, let_go}
use Rattle.record.specs.Posts.{posts_from, taken}
use Rattle.record.specs.Fresh.{fresh_held, members_placed, fresh_log, fresh_turn, fresh_posts, fresh}
use Rattle.visit.specs.Level.{reached, level_of, raised}
use Rattle.visit.specs.Deliver.{frame_with, take_while, due, delivered}
use Rattle.visit.specs.Visit.{others, round_allowance, others_backlog, share, allowance, requests, repeats, unanswered, new_count, with_sent, new_numbers, highest', log_now, sets_aru, aru', blocker', stall', safe', missing, requests', broadcasts, round', waits', backlog', next_in, token', turn', log', rec'}
use Rattle.visit.specs.trials.Sample.{senders_to, all_pass}
use Rattle.visit.specs.trials.Marks.{marking}
use Rattle.visit.specs.trials.Shares.{allowing}

pub marks-pass : all_pass marking ≡ true
unfolding flatten word_bytes bytes_as every header_bytes numbers_in numbered token_fixed holds held_with cleared cleared_from let_go posts_from taken undelivered held_numbers fresh_held members_placed fresh_log fresh_turn fresh_posts fresh reached level_of raised frame_with take_while due delivered others round_allowance others_backlog share allowance those requests repeats unanswered new_count with_sent numbers_after new_numbers highest' log_now sets_aru aru' blocker' stall' safe' missing requests' broadcasts round' waits' backlog' next_in token' turn' log' rec' senders_to all_pass
marks-pass = refl

pub allowances-pass : all_pass allowing ≡ true
unfolding undelivered held_numbers fresh_held members_placed fresh_log fresh_turn fresh_posts fresh others round_allowance others_backlog share allowance all_pass
allowances-pass = refl
