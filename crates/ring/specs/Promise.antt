-- What `foundable` promises of a ring.
use Rattle.std.specs.Prelude.{ℕ, ◌≡◌, List, []}
use Rattle.station.specs.Over.{ids_in}
use Rattle.ring.specs.Calls.{Call}
use Rattle.ring.specs.Run.{Account, over_structs}
use Rattle.ring.specs.Demand.{CanAfter, WholeRun}
use Rattle.ring.specs.Listed.{ListedInOrder}
use Rattle.ring.specs.AlwaysWhole.{RecordsWhole}
use Rattle.ring.specs.Newest.{NewestAccepted}
use Rattle.ring.specs.OverBytes.{LargeEnough, over_bytes}

-- of calls: demand 3, delivery lists are the readings in order, the newest token is not refused, records are whole
pub record Promise (members : List ℕ) (ring : ℕ) (a : Account) (calls : List Call) : Type 0 where
  pub whole_run : WholeRun members ring a calls
  pub listed : ListedInOrder members ring a calls
  pub newest_accepted : NewestAccepted members ring a calls
  pub records_whole : RecordsWhole members ring a calls

-- it holds of every list of calls that can be made
abbrev pub KeepsPromise : List ℕ → ℕ → Account → Type 0
KeepsPromise members ring a = (calls : List Call) → CanAfter members ring a [] calls → Promise members ring a calls

-- over structs; and over bytes, in whatever buffers that are large enough, where `list` has the members
pub record Promised (members : List ℕ) (ring : ℕ) : Type 0 where
  pub kept_over_structs : KeepsPromise members ring (over_structs members ring)
  pub kept_over_bytes : (list : List ℕ) (buffers : ℕ → List ℕ) (rooms : ℕ → ℕ)
      → ids_in list ≡ members
      → LargeEnough members buffers rooms
      → KeepsPromise members ring (over_bytes list ring buffers rooms)
