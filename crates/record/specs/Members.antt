-- The founding questions, of a list of ids, the own id and the ring number. [document 01, Questions at the door, 3 to 6]
use Rattle.std.specs.Prelude.{ℕ, Bool, not, ◌&&◌, List, length, get_or, leb}
use Rattle.words.specs.Scan.{all_within, lacks, distinct}
use Rattle.frames.specs.Number.{most_id, is_number}
use Rattle.record.specs.Size.{least_members, most_members}

abbrev pub is_member : List ℕ → ℕ → Bool
is_member ids id = not (lacks ids id)

-- the representative: the first in circulation order. Its id is part of the paper's ring_id
abbrev pub representative : List ℕ → ℕ
representative ids = get_or ids 0 0

-- 3. Are there 2 to 8 members?
abbrev pub members_counted : List ℕ → Bool
members_counted ids = leb least_members (length ids) && leb (length ids) most_members

-- 4. Are ids non-zero, distinct, the lowest first (the rest in any order)?
unfoldable pub ids_follow : List ℕ → Bool
ids_follow ids = all_within 1 most_id ids && distinct ids && all_within (representative ids) most_id ids

-- 5. Is the own id among them?
abbrev pub own_among : List ℕ → ℕ → Bool
own_among ids own = is_member ids own

-- 6. Is the ring number in range?
abbrev pub ring_in_range : ℕ → Bool
ring_in_range ring = is_number ring

-- 3 to 6
unfoldable pub foundable : List ℕ → ℕ → ℕ → Bool
foundable ids own ring = members_counted ids && ids_follow ids && own_among ids own && ring_in_range ring
