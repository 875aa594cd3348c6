-- A ring that can be founded keeps what is promised of it.
use Prim.Native.Nat.{ℕ}
use mathlib.Core.Path.{◌≡◌, sym, ◌∙◌, subst}
use mathlib.Core.Bool.{Bool, true}
use mathlib.Core.List.{List}
use Rattle.station.specs.Over.{ids_in}
use Rattle.ring.specs.Run.{ring_foundable, over_structs}
use Rattle.ring.specs.OverBytes.{LargeEnough, Founding, over_bytes}
use Rattle.ring.specs.Promise.{KeepsPromise, Promised}
use Rattle.ring.proofs.runs.Demand.{demand₃}
use Rattle.ring.proofs.runs.Listed.{listed}
use Rattle.ring.proofs.runs.AlwaysWhole.{always-whole}
use Rattle.ring.proofs.runs.Newest.{never-refused}
use Rattle.ring.proofs.runs.OverBytes.{demand₃-over-bytes, listed-over-bytes, never-refused-over-bytes, always-whole-over-bytes}

kept-over-structs : (members : List ℕ) (ring : ℕ) → ring_foundable members ring ≡ true → KeepsPromise members ring (over_structs members ring)
kept-over-structs members ring foundable calls can =
    record {
      whole_run = demand₃ members ring foundable calls can;
      listed = listed members ring foundable calls can;
      newest_accepted = never-refused members ring foundable calls can;
      records_whole = always-whole members ring foundable calls can;
    }

kept-over-bytes : (list : List ℕ) (ring : ℕ) (buffers : ℕ → List ℕ) (rooms : ℕ → ℕ) → Founding list ring buffers rooms → KeepsPromise (ids_in list) ring (over_bytes list ring buffers rooms)
kept-over-bytes list ring buffers rooms f calls can =
    record {
      whole_run = demand₃-over-bytes list ring buffers rooms f calls can;
      listed = listed-over-bytes list ring buffers rooms f calls can;
      newest_accepted = never-refused-over-bytes list ring buffers rooms f calls can;
      records_whole = always-whole-over-bytes list ring buffers rooms f calls can;
    }

promised : (members : List ℕ) (ring : ℕ) → ring_foundable members ring ≡ true → Promised members ring
promised members ring foundable =
    record {
      kept_over_structs = kept-over-structs members ring foundable;
      kept_over_bytes = λ list buffers rooms are.
          subst (λ ms. ring_foundable ms ring ≡ true → LargeEnough ms buffers rooms → KeepsPromise ms ring (over_bytes list ring buffers rooms)) are
          (λ found large. kept-over-bytes list ring buffers rooms (record { foundable = found; large = large }))
          foundable;
    }

pub promised-when : (members : List ℕ) (ring : ℕ) (r : Bool) → r ≡ ring_foundable members ring
    → (r ≡ ring_foundable members ring) × (r ≡ true → Promised members ring)
promised-when members ring r e = (e, λ foundable. promised members ring (sym e ∙ foundable))
