-- The table of trials, computed from the definitions.
use mathlib.Core.Path.{◌≡◌, refl}
use mathlib.Core.Bool.{true}
use Rattle.words.specs.Word.{word_bytes, word_of, word_at}
use Rattle.words.specs.Run.{bytes_as, words_as}
use Rattle.words.specs.Scan.{every}
use Rattle.frames.specs.Header.{header_of, header_follows, header_bytes}
use Rattle.frames.specs.Message.{message_of, message_follows, message_fixed}
use Rattle.frames.specs.Token.{numbers_in, numbered, requests_of, requests_follow, token_of, token_follows, token_fixed}
use Rattle.frames.specs.Read.{read_message, read_token, read_of}
use Rattle.frames.specs.Write.{writing_of}
use Rattle.frames.specs.trials.Trials.{all_frames_pass, first_bytes, frame_trials}

pub trials : all_frames_pass frame_trials ≡ true
unfolding frame_trials first_bytes word_bytes word_of word_at words_as bytes_as every header_of header_follows header_bytes message_of message_follows message_fixed numbers_in numbered requests_of requests_follow token_of token_follows token_fixed read_message read_token read_of writing_of
trials = refl
