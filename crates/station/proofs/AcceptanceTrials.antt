-- Every row of the table passes. It is computed in parts, so that no computation is large.
use mathlib.Core.Path.{◌≡◌, refl}
use mathlib.Core.Bool.{Bool, true, false, ◌&&◌}
use mathlib.Core.List.{List, [], ◌∷◌, ◌++◌, flatten}
use lib.Dec.{eqb}
use Rattle.words.specs.Word.{word_bytes, word_of, word_at}
use Rattle.words.specs.Run.{bytes_as, words_as}
use Rattle.words.specs.Scan.{every}
use Rattle.frames.specs.Header.{header_of, header_follows, header_bytes}
use Rattle.frames.specs.Message.{message_of, message_follows, message_fixed}
use Rattle.frames.specs.Token.{numbers_in, numbered, requests_of, requests_follow, token_of, token_follows, token_fixed}
use Rattle.frames.specs.Read.{read_message, read_token, read_of}
use Rattle.frames.specs.trials.Trials.{first_bytes}
use Rattle.record.specs.Count.{every_from, those, numbers_after}
use Rattle.record.specs.Held.{holds, held_numbers, held_with, cleared, cleared_from, let_go}
use Rattle.record.specs.Posts.{posts_from, queued, taken}
use Rattle.record.specs.Members.{ids_follow, foundable}
use Rattle.record.specs.Ring.{this_ring, token_members, token_passes}
use Rattle.record.specs.Fresh.{fresh_held, members_placed, fresh_log, fresh_turn, fresh_posts, fresh}
use Rattle.record.specs.Whole.{held_in_range, numbers_in_range, log_in_range, turn_in_range, posts_in_range, senders_are_members, resend_passes, marks_in_order, arus_reached, held_to_level, next_not_held, contents_padded, free_places_zero, log_unused_zero, posts_unused_zero, turn_unused_zero, log_whole, turn_whole, posts_whole, panel_right, parts_whole, whole}
use Rattle.record.specs.Panel.{undelivered}
use Rattle.station.specs.Found.{first_token, founded}
use Rattle.station.specs.Post.{posted}
use Rattle.station.specs.Resend.{resent}
use Rattle.visit.specs.Level.{reached, level_of, raised}
use Rattle.visit.specs.Deliver.{frame_with, take_while, due, delivered}
use Rattle.visit.specs.Message.{is_had, log_with_message, resend_ended}
use Rattle.station.specs.Arrive.{message_heard}
use Rattle.visit.specs.Visit.{others, round_allowance, others_backlog, share, allowance, requests, repeats, unanswered, new_count, with_sent, new_numbers, highest', log_now, sets_aru, aru', blocker', stall', deaf, safe', missing, requests', broadcasts, round', waits', backlog', next_in, token', turn', log', rec', written}
use Rattle.station.specs.Arrive.{accepted}
use Rattle.visit.specs.Acceptable.{covers_held}
use Rattle.station.specs.Arrive.{message_arrived, token_arrived, arrived}
use Rattle.visit.specs.Within.{frames_up_to, frames_in}
use Rattle.visit.specs.trials.Sample.{Trial, senders_to, all_pass}
use Rattle.station.specs.trials.Sample.{loaded_with}
use Rattle.station.specs.trials.ArrivalTrials.{hearing, visiting, entering}
use Rattle.station.specs.trials.RequestTrials.{requested}
use Rattle.station.specs.trials.Trials.{calling, table}

-- opens all that a row computes with
unfoldable pub opened : List Trial → Bool
unfolding flatten word_bytes word_of word_at words_as bytes_as every header_of header_follows header_bytes message_of message_follows message_fixed numbers_in numbered requests_of requests_follow token_of token_follows token_fixed read_message read_token read_of first_bytes every_from holds held_numbers held_with cleared cleared_from let_go posts_from queued taken ids_follow foundable this_ring token_members token_passes fresh_held members_placed fresh_log fresh_turn fresh_posts fresh held_in_range numbers_in_range log_in_range turn_in_range posts_in_range senders_are_members resend_passes marks_in_order arus_reached held_to_level next_not_held contents_padded free_places_zero log_unused_zero posts_unused_zero turn_unused_zero log_whole turn_whole posts_whole undelivered panel_right parts_whole whole first_token founded posted resent reached level_of raised frame_with take_while due delivered is_had log_with_message resend_ended message_heard others round_allowance others_backlog share allowance those requests repeats unanswered new_count with_sent numbers_after new_numbers highest' log_now sets_aru aru' blocker' stall' deaf safe' missing requests' broadcasts round' waits' backlog' next_in token' turn' log' rec' written accepted covers_held message_arrived token_arrived arrived frames_up_to frames_in senders_to loaded_with all_pass
opened rows = all_pass rows

calling-pass : all_pass calling ≡ true
unfolding opened
calling-pass = refl

hearing-pass : all_pass hearing ≡ true
unfolding opened
hearing-pass = refl

visiting-pass : all_pass visiting ≡ true
unfolding opened
visiting-pass = refl

entering-pass : all_pass entering ≡ true
unfolding opened
entering-pass = refl

requested-pass : all_pass requested ≡ true
unfolding opened
requested-pass = refl

-- two parts make one
with_first : (first : Bool) {rest more : Bool} → (first && rest) ≡ true → (rest ≡ true → more ≡ true) → (first && more) ≡ true
with_first true e f = f e
with_first false e f = e

both : (part more : List Trial) → all_pass part ≡ true → all_pass more ≡ true → all_pass (part ++ more) ≡ true
unfolding all_pass
both [] more e f = f
both (t ∷ ts) more e f = with_first (eqb t.gives t.wanted) e (λ g. both ts more g f)

pub trials : all_pass table ≡ true
trials = both calling _ calling-pass (both hearing _ hearing-pass (both visiting _ visiting-pass (both entering _ entering-pass requested-pass)))
