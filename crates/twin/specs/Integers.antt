-- How a run ends, with whole numbers for values and states: SPECIFICATION, Equations 5.
use Rattle.std.specs.Prelude.{◌≡◌, List, ℕ, suc, ◌<◌, length, get_or, ℤ}
use Rattle.table.specs.Shape.{total}
use Rattle.table.specs.Packed.{shape_of}
use Rattle.calls.specs.Number.{call_of}
use Rattle.twin.specs.Rules.{Rules}
use Rattle.twin.specs.Run.{Values, World, run}
use Rattle.twin.specs.Equations.{Solves, AtTime, Joined}
use Rattle.twin.specs.Demand.{values}

-- how the run of an order ends that was started at time n
pub record Ends (t : List ℕ) (m : Rules ℤ ℤ) (order : List ℕ) (w : World ℤ ℤ) (n : ℕ) : Type 0 where
  -- every unit and port is one step later
  pub one_later : AtTime (shape_of t) (suc n) (run (shape_of t) m w order)
  -- each was moved exactly once: its call has one place in the order
  pub moved-once : (a : ℕ) → a < total (shape_of t)
      → (i : ℕ) × (i < length order) × (get_or order i 0 ≡ a)
      × ((j : ℕ) → j < length order → get_or order j 0 ≡ a → j ≡ i)
  -- joined ports are equal, in value and in time
  pub joined : Joined (shape_of t) (run (shape_of t) m w order)
  -- every value and state solves the equations
  pub solves : Solves (shape_of t) m (values w) (values (run (shape_of t) m w order))
  -- and nothing else does
  pub single : (new : Values ℤ ℤ) → Solves (shape_of t) m (values w) new → (a : ℕ) → a < total (shape_of t)
      → values (run (shape_of t) m w order) (call_of (shape_of t) a) ≡ new (call_of (shape_of t) a)
