-- Contents that stand one after another in one run of bytes, 64 apart, each with its length beside it: of held messages and of waiting
-- posts. [document 01, The station record]
use Rattle.std.specs.Prelude.{ℕ, ◌+◌, ◌*◌, ◌-◌, List, get_or, take, drop}
use Rattle.frames.specs.Layout.{most_content}

-- the content at a place
abbrev pub content_in : List ℕ → List ℕ → ℕ → List ℕ
content_in lengths contents place = take (get_or lengths place 0) (drop (most_content * place) contents)

-- the bytes past its length
abbrev pub padding : List ℕ → List ℕ → ℕ → List ℕ
padding lengths contents place = take (most_content - get_or lengths place 0) (drop (most_content * place + get_or lengths place 0) contents)
