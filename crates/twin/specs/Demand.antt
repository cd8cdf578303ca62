-- The words of demand 3: the values held, an order that is passed, the world at its end.
use Rattle.std.specs.Prelude.{◌≡◌, List, ℕ}
use Rattle.table.specs.Shape.{total}
use Rattle.table.specs.Packed.{shape_of}
use Rattle.calls.specs.Precedence.{precedes}
use Rattle.orders.specs.Sort.{placed}
use Rattle.judging.specs.Verdict.{verdict_of}
use Rattle.twin.specs.Rules.{Rules}
use Rattle.twin.specs.Run.{Values, World, run}

-- the values that all hold
abbrev pub values : {State Value : Type 0} → World State Value → Values State Value
values w k = (w k).value

-- the order is passed on the table: the verdict's number is 0, so the table is sound too
abbrev pub Passed : List ℕ → List ℕ → Type 0
Passed t order = (verdict_of t order).number ≡ 0

module _ {State Value : Type 0} (t : List ℕ) (m : Rules State Value) where
  -- the world at the end
  abbrev pub end : World State Value → List ℕ → World State Value
  end = run (shape_of t) m

  abbrev pub written : List ℕ
  written = placed (total (shape_of t)) (precedes (shape_of t))
