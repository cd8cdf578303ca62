-- What `order` gives, `verdict` passes, and its run ends at the one solution of the equations.
use Rattle.std.specs.Prelude.{◌≡◌, List, ℕ, ◌<◌, ℤ}
use Rattle.table.specs.Shape.{total}
use Rattle.table.specs.Packed.{shape_of}
use Rattle.calls.specs.Number.{call_of}
use Rattle.placing.specs.Placing.{call_count}
use Rattle.sorter.specs.Ordering.{ordering}
use Rattle.judging.specs.Verdict.{answer, verdict_of}
use Rattle.judging.proofs.Judged.{passed_N}
use Rattle.judging.proofs.Demand.{passed-keeps}
use Rattle.judge.specs.CallByCall.{TakenInTurn}
use Rattle.judge.proofs.InTurn.{in_turn_passed}
use Rattle.twin.specs.Rules.{Rules}
use Rattle.twin.specs.Run.{World, run}
use Rattle.twin.specs.Equations.{AtTime}
use Rattle.twin.specs.Integers.{Ends}
use Rattle.twin.proofs.Integers.{demand_3, demand_3_alike}
use Rattle.demands.specs.Given.{Given, given-checked, given-first}

module _ (t : List ℕ) (room : ℕ) (given : Given t room) where
  given-number : (verdict_of t (ordering t room).bytes).number ≡ 0
  given-number =
      (passed-keeps t (ordering t room).bytes).1
      (given-checked t room given, (given-first t room given).keeps)

  -- the verdict on what `order` writes is a pass
  pub given-passed : verdict_of t (ordering t room).bytes ≡ answer 0 (call_count t)
  given-passed = passed_N t (ordering t room).bytes given-number

  -- demand 3 for the order that `order` writes
  pub given-ends : (m : Rules ℤ ℤ) (w : World ℤ ℤ) (n : ℕ) → AtTime (shape_of t) n w
      → Ends t m (ordering t room).bytes w n
  given-ends = demand_3 t (ordering t room).bytes given-number

  -- every passed order ends as that one does
  pub given-alike : (order : List ℕ) → (verdict_of t order).number ≡ 0
      → (m : Rules ℤ ℤ) (w : World ℤ ℤ) (a : ℕ)
      → a < total (shape_of t)
      → run (shape_of t) m w order (call_of (shape_of t) a)
      ≡ run (shape_of t) m w (ordering t room).bytes (call_of (shape_of t) a)
  given-alike order p = demand_3_alike t order (ordering t room).bytes p given-number

-- demand 3 for an order that a run takes call by call
pub in_turn_ends : (t order : List ℕ) → TakenInTurn t order
    → (m : Rules ℤ ℤ) (w : World ℤ ℤ) (n : ℕ)
    → AtTime (shape_of t) n w → Ends t m order w n
in_turn_ends t order p = demand_3 t order ((in_turn_passed t order).0 p)
