-- The lines that the bench prints. [document 01, Trials: the bench]
use Rattle.std.specs.Prelude.{ℕ, List, ◌++◌}
use Rattle.frames.specs.declared.message.Message.{Message}
use Rattle.text.specs.Text.{Text, ascii, piece, decimal}

-- a number, and a space after it
abbrev pub spaced : ℕ → Text
spaced n = decimal n ++ piece (ascii " ")

-- place, message number, sender, service
abbrev pub delivery_head : ℕ → Message → Text
delivery_head place m = spaced place ++ spaced m.number.0 ++ spaced m.sender ++ spaced m.service

-- and the content
abbrev pub delivery_line : ℕ → Message → List ℕ → Text
delivery_line place m content = delivery_head place m ++ piece content ++ piece (ascii "\n")

abbrev pub number_line : ℕ → Text
number_line n = decimal n ++ piece (ascii "\n")

-- `no` and the question's number
abbrev pub refusal_line : ℕ → Text
refusal_line number = piece (ascii "no ") ++ number_line number
