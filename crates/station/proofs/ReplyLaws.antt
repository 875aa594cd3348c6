-- A reply, question by question; what the code's `ask` says.
use mathlib.Core.Path.{◌≡◌, refl}
use mathlib.Core.Bool.{Bool, true, false, cond}
use Rattle.std.specs.Prelude.{Result, Ok, Err}
use Rattle.record.specs.declared.Record.{Record}
use Rattle.station.specs.Reply.{Reply, refused, asks}
use Rattle.station.specs.declared.refusal.Refusal.{Refusal}

-- a question at the door, either way
pub asked : (P : Reply → Type 0) (r : Record) (question : Bool) (why : Refusal) (rest : Reply) → P (refused r why) → (question ≡ true → P rest) → P (asks r question why rest)
asked P r true why rest not_so so = so refl
asked P r false why rest not_so so = not_so

-- the code went on, so the answer was 'yes'
pub said_yes : (yes : Bool) (why : Refusal) (x : Unit) (answer : Result Unit Refusal) → answer ≡ cond yes (Ok tt) (Err why) → answer ≡ Ok x → yes ≡ true
said_yes true why x answer e f = refl
said_yes false why x answer e f = cc

-- it stopped here, so the answer was 'no'
pub said_no : (yes : Bool) (why e : Refusal) (answer : Result Unit Refusal) → answer ≡ cond yes (Ok tt) (Err why) → answer ≡ Err e → yes ≡ false
said_no true why e answer says stops = cc
said_no false why e answer says stops = refl
