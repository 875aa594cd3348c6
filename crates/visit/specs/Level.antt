-- The level rises as far as it can. [document 01, A message arrives; the paper's my_aru]
use Rattle.std.specs.Prelude.{ℕ, zero, suc, Bool, cond}
use Rattle.record.specs.Size.{most_held}
use Rattle.record.specs.Held.{holds, log_with}
use Rattle.record.specs.declared.log.Log.{Log}

-- the level rises as far as it can: while the next number is held, by `most` at most
unfoldable pub reached : (ℕ → Bool) → ℕ → ℕ → ℕ
reached has zero level = level
reached has (suc most) level = cond (has (suc level)) (reached has most (suc level)) level

-- no more than 32 are held
unfoldable pub level_of : Log → ℕ
level_of l = reached (holds l) most_held l.level.0

-- the log with its level risen. Figure 3's 'update my_aru'
unfoldable pub raised : Log → Log
raised l = log_with l (record { 0 = level_of l }) l.safe l.delivered l.held
