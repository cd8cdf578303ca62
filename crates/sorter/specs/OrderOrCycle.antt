-- The first half of SPECIFICATION, Demands 2, in the declared words: of an answer and its bytes.
-- `precedes` tests the five rules `Precedes`: on a sound table the two are one (`precedes_iff`).
use Rattle.std.specs.Prelude.{◌≡◌, ◌↔◌, List, ℕ}
use Rattle.table.specs.declared.Answer.{Answer}
use Rattle.table.specs.Packed.{shape_of}
use Rattle.calls.specs.Precedence.{precedes}
use Rattle.orders.specs.Cycle.{Cycle}
use Rattle.orders.specs.First.{First}
use Rattle.placing.specs.Placing.{call_count}

pub record OrderOrCycle (t : List ℕ) (r : Answer) (bytes : List ℕ) : Type 0 where
  -- the number is 0 where there is no cycle, and nowhere else
  pub produced : (r.number ≡ 0) ↔ ((l : List ℕ) → Cycle (call_count t) (precedes (shape_of t)) l → ⊥)
  -- then the bytes are the first order, and the answer's place is N
  pub first : r.number ≡ 0 → (r.place ≡ call_count t) × First (call_count t) (precedes (shape_of t)) bytes
  -- else it is 9, and the bytes are a cycle
  pub shown : (r.number ≡ 0 → ⊥) → (r.number ≡ 9) × Cycle (call_count t) (precedes (shape_of t)) bytes
