-- Posting on a record that isn't whole.
use Prim.Native.Nat.{ℕ}
use mathlib.Core.Path.{◌≡◌}
use mathlib.Core.Bool.{false}
use mathlib.Core.List.{List}
use Rattle.record.specs.Whole.{whole}
use Rattle.record.specs.declared.Record.{Record}
use Rattle.station.specs.Reply.{refused}
use Rattle.station.specs.Post.{posted}
use Rattle.station.specs.declared.refusal.Refusal.TheVariants.{NotWhole}

module _ (r : Record) (service : ℕ) (content : List ℕ) where
  pub posted-not-whole : whole r ≡ false → posted r service content ≡ refused r NotWhole
  unfolding posted
  posted-not-whole e = rw e
