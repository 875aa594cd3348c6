-- What happens to a log on arrival keeps it good: its level rises, messages are handed out, and those up to the safe mark are let go.
use Prim.Native.Nat.{ℕ, suc, ◌+◌, ◌<◌, ◌≤◌}
use mathlib.Core.Path.{◌≡◌, ◌∙◌}
use mathlib.Core.Bool.{false, ◌&&◌, ◌||◌, and-false, or-true}
use borrow.Author.Tests.{lt-ltb}
use native.Mathlib.Decide.{dec_lt}
use native.Mathlib.Omega.{arith}
use lib.Dec.{ltb, eqb}
use Rattle.frames.specs.Number.{most_number}
use Rattle.frames.specs.declared.number.MessageNumber.{MessageNumber}
use Rattle.record.specs.Size.{most_held}
use Rattle.record.specs.Held.{Entry, holds, log_with, stored, let_go}
use Rattle.record.specs.Ring.{ids}
use Rattle.record.specs.declared.log.Log.{Log}
use Rattle.record.proofs.HeldLaws.{held-sizes, holds-stored, holds-let-go}
use Rattle.record.proofs.HeldWhole.{EntryGood}
use Rattle.record.proofs.LogWhole.{holding, StockGood, stored-good, let-go-good}
use Rattle.record.proofs.WholeFacts.{MarksGood, LogReady, LogGood}
use Rattle.visit.specs.Level.{raised}
use Rattle.visit.specs.Deliver.{delivered}
use Rattle.visit.proofs.LevelLaws.{level-low, level-most, raised-next, raised-run}
use Rattle.visit.proofs.DueLaws.{due-most}

-- the level is within the window
pub level-window : (l : Log) → MarksGood l → l.level.0 ≤ l.safe.0 + most_held
level-window l m =
    elim (dec_lt l.safe.0 l.level.0) [
      | no h ↦ omega arith
      | yes h ↦ (holding l l.level.0 (m.to_level l.level.0 h (omega arith))).high
    ]

-- ---- a message is kept under a free number of the window

module _ (l : Log) (n : ℕ) (e : Entry) (g : LogReady l) (fits : EntryGood (ids l) e)
    (free : holds l n ≡ false) (low : l.safe.0 < n) (high : n ≤ l.safe.0 + most_held) where
  pub stored-holds : (i : ℕ) → holds (stored l n e) i ≡ eqb i n || holds l i
  stored-holds = holds-stored l n e (held-sizes l.held g.stock.held.range) low high fits.named fits.short

  pub stored-ready : n ≤ most_number → LogReady (stored l n e)
  stored-ready most =
      let m = g.marks in
      record {
        members = g.members;
        stock = stored-good l n e g.stock free low high most fits;
        marks =
            record {
              safe_first = m.safe_first;
              level-last = m.level-last;
              level-most = m.level-most;
              to_level = λ i above below. rw (stored-holds i, m.to_level i above below) (or-true (eqb i n));
            };
      }

module _ (l : Log) where
  -- what is held does not depend on the marks of level and delivered
  marked-stock : (level done : MessageNumber) → StockGood l → StockGood (log_with l level l.safe done l.held)
  unfolding holds
  marked-stock level done s = record { held = s.held; numbers = s.numbers }

  -- ---- the level rises

  pub raised-good : LogReady l → LogGood (raised l)
  unfolding raised
  raised-good g =
      let m = g.marks in
      record {
        ready =
            record {
              members = g.members;
              stock = marked-stock (raised l).level l.delivered g.stock;
              marks =
                  record {
                    safe_first = m.safe_first;
                    level-last = omega (arith, m.level-last, level-low l);
                    level-most = level-most l most_number m.level-most g.stock.numbers;
                    to_level = raised-run l l.safe.0 m.to_level;
                  };
            };
        next = raised-next l (omega (arith, m.safe_first, m.level-last));
      }

  -- ---- messages are handed out

  pub delivered-good : (safe : ℕ) → LogGood l → LogGood (delivered l safe)
  unfolding delivered holds
  delivered-good safe g =
      let m = g.ready.marks in
      record {
        ready =
            record {
              members = g.ready.members;
              stock = marked-stock l.level (delivered l safe).delivered g.ready.stock;
              marks =
                  record {
                    safe_first = omega (arith, m.safe_first);
                    level-last = omega (arith, m.level-last, due-most l safe);
                    level-most = m.level-most;
                    to_level = m.to_level;
                  };
            };
        next = g.next;
      }

  -- ---- everything up to a new safe mark is let go

  module _ (safe : ℕ) (g : LogGood l) (low : l.safe.0 ≤ safe) (high : safe ≤ l.safe.0 + most_held) where
    gone : (n : ℕ) → holds (let_go l safe) n ≡ ltb safe n && holds l n
    gone = holds-let-go l safe (held-sizes l.held g.ready.stock.held.range) low high

    pub let-go-log : safe ≤ l.delivered.0 → LogGood (let_go l safe)
    unfolding let_go
    let-go-log done =
        let m = g.ready.marks in
        record {
          ready =
              record {
                members = g.ready.members;
                stock = let-go-good l safe g.ready.stock low high;
                marks =
                    record {
                      safe_first = done;
                      level-last = m.level-last;
                      level-most = m.level-most;
                      to_level = λ n above below. gone n ∙ rw (lt-ltb safe n above, m.to_level n (omega arith) below);
                    };
              };
          next = gone (suc l.level.0) ∙ simp (g.next, and-false);
        }
