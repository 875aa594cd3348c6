-- Laws of a line, one for each way to put it.
use Prim.Native.Nat.{ℕ, ◌+◌, ◌≤◌}
use mathlib.Core.Path.{◌≡◌}
use mathlib.Core.List.{List}
use native.Mathlib.Omega.{arith}
use lib.ListN.{length}
use Rattle.frames.specs.Message.{content_of}
use Rattle.frames.specs.Read.{read_of, unread_as, a_message, a_token}
use Rattle.frames.specs.Refusal.{frame_refusal_number}
use Rattle.frames.specs.declared.message.Message.{Message}
use Rattle.frames.specs.declared.token.Token.{Token}
use Rattle.frames.specs.declared.refusal.Refusal.{Refusal}
use Rattle.text.specs.Text.{Filled, put, Whole}
use Rattle.dump.specs.Line.{message_line, token_line, unread_line, line_text, line_of, longest_line}
use Rattle.text.proofs.PutLaws.{put_whole}
use Rattle.dump.proofs.Longest.{line-short}

module _ (f : Filled) {f' : Filled} where
  module _ (frame : List ℕ) where
    pub refused-put : (why : Refusal) (number : ℕ)
        → read_of frame ≡ unread_as why
        → number ≡ frame_refusal_number why
        → f' ≡ put (unread_line number) f
        → f' ≡ put (line_text frame) f
    unfolding line_text
    refused-put why number a e p = rw a (rw e at p)

    pub message-put : (m : Message) (content : List ℕ)
        → read_of frame ≡ a_message m
        → content ≡ content_of frame
        → f' ≡ put (message_line m content) f
        → f' ≡ put (line_text frame) f
    unfolding line_text
    message-put m content a e p = rw a (rw e at p)

    pub token-put : (t : Token) → read_of frame ≡ a_token t → f' ≡ put (token_line t) f → f' ≡ put (line_text frame) f
    unfolding line_text
    token-put t a p = rw a p

-- where there is room for the longest line, the whole line is put
pub line-whole : {before after : Filled} (frame : List ℕ)
    → before.at + longest_line ≤ length before.out
    → after ≡ put (line_text frame) before
    → Whole before (line_of frame) after
line-whole frame room p = let short = line-short frame in put_whole (line_text frame) (omega arith) p
