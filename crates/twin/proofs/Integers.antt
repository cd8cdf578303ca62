-- Demand 3 with whole numbers for values and states: SPECIFICATION, Equations 5.
use Rattle.std.specs.Prelude.{◌≡◌, List, ℕ, suc, ◌<◌, length, get_or, ℤ}
use Rattle.table.specs.Shape.{total}
use Rattle.table.specs.Packed.{shape_of}
use Rattle.calls.specs.Number.{call_of}
use Rattle.judging.specs.Verdict.{verdict_of}
use Rattle.twin.specs.Rules.{Rules}
use Rattle.twin.specs.Run.{Values, World, run}
use Rattle.twin.specs.Equations.{Solves, AtTime, Joined}
use Rattle.twin.specs.Demand.{values}
use Rattle.twin.proofs.Demand.{run-solves, run-single, run-later}
use Rattle.twin.proofs.Demand.{moved-once as one_place, run-joined, runs-alike}
use Rattle.twin.specs.Integers.{Ends}

-- every passed order, any models, from anything held at one time; joined ports may differ then
pub demand_3 : (t order : List ℕ) → (verdict_of t order).number ≡ 0
    → (m : Rules ℤ ℤ) (w : World ℤ ℤ) (n : ℕ)
    → AtTime (shape_of t) n w → Ends t m order w n
demand_3 t order p m w n start = record {
  one_later = run-later t m order p w n start;
  moved-once = one_place t m order p;
  joined = run-joined t m order p w n start;
  solves = run-solves t m order p w;
  single = run-single t m order p w;
}

-- two passed orders end alike, in value and time
pub demand_3_alike : (t order other : List ℕ) → (verdict_of t order).number ≡ 0
    → (verdict_of t other).number ≡ 0
    → (m : Rules ℤ ℤ) (w : World ℤ ℤ) (a : ℕ) → a < total (shape_of t)
    → run (shape_of t) m w order (call_of (shape_of t) a)
    ≡ run (shape_of t) m w other (call_of (shape_of t) a)
demand_3_alike t order other p q m = runs-alike t m order other p q
