-- Resending: on a record that isn't whole; the remembered token's size.
use Prim.Native.Nat.{ℕ, ◌≤◌}
use mathlib.Core.Path.{◌≡◌, refl}
use mathlib.Core.Bool.{Bool, true, false, cond}
use lib.Dec.{leb}
use Rattle.frames.specs.Layout.{longest_token}
use Rattle.record.specs.Whole.{whole}
use Rattle.record.specs.declared.Record.{Record}
use Rattle.record.proofs.WholeFacts.{whole-good}
use Rattle.visit.specs.Output.{most_frames}
use Rattle.station.specs.Reply.{refused, asks}
use Rattle.station.specs.Resend.{resent}
use Rattle.station.specs.declared.refusal.Refusal.TheVariants.{NoRoom, NotWhole}

module _ (r : Record) (room : ℕ) where
  pub resent-not-whole : whole r ≡ false → resent r room ≡ refused r (cond (leb most_frames room) NotWhole NoRoom)
  unfolding resent
  resent-not-whole e = rw e (not-whole (leb most_frames room))
    where
      not-whole : (fits : Bool) → asks r fits NoRoom (refused r NotWhole) ≡ refused r (cond fits NotWhole NoRoom)
      not-whole true = refl
      not-whole false = refl

-- a whole record's token fits
pub token_fits : (r : Record) → whole r ≡ true → r.turn.size ≤ longest_token
token_fits r w = (whole-good r w).turn.range.size
