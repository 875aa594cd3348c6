-- The posts that wait, oldest first. [document 01, The station record; the paper's new_message_queue]
use Rattle.std.specs.Prelude.{ℕ, zero, suc, ◌+◌, ◌*◌, ◌-◌, List, [], ◌∷◌, ◌++◌, length, get_or, set, drop, replicate}
use Rattle.std.proofs.lemmas.List.Edits.{sets}
use Rattle.frames.specs.Layout.{most_content}
use Rattle.record.specs.Contents.{content_in}
use Rattle.record.specs.declared.posts.Posts.{Posts}

pub record Post : Type 0 where
  pub service : ℕ
  pub content : List ℕ

-- the post at a place
abbrev pub post_at : Posts → ℕ → Post
post_at p place =
    record {
      service = get_or p.services place 0;
      content = content_in p.lengths p.contents place;
    }

-- n posts from a place on
unfoldable pub posts_from : Posts → ℕ → ℕ → List Post
posts_from p place zero = []
posts_from p place (suc n) = post_at p place ∷ posts_from p (suc place) n

-- all that wait, oldest first
abbrev pub waiting : Posts → List Post
waiting p = posts_from p 0 p.count

-- one more, behind the others
unfoldable pub queued : Posts → ℕ → List ℕ → Posts
queued p service content =
    record {
      count = p.count + 1;
      services = set p.services p.count service;
      lengths = set p.lengths p.count (length content);
      contents = sets p.contents (most_content * p.count) content;
    }

-- without the n oldest: the others move up, and the places they leave are zero
unfoldable pub taken : Posts → ℕ → Posts
taken p n =
    record {
      count = p.count - n;
      services = drop n p.services ++ replicate n 0;
      lengths = drop n p.lengths ++ replicate n 0;
      contents = drop (most_content * n) p.contents ++ replicate (most_content * n) 0;
    }
