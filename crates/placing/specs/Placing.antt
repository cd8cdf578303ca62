-- Place all that can be placed: what is answered, and the bytes at the front of the lent buffer.
use Rattle.std.specs.Prelude.{cond, List, [], ℕ, eqb, leb, length}
use Rattle.table.specs.Shape.{total}
use Rattle.table.specs.Packed.{shape_of}
use Rattle.table.specs.Check.{refusal}
use Rattle.table.specs.Outcome.{Outcome, outcome}
use Rattle.calls.specs.Precedence.{precedes}
use Rattle.orders.specs.Sort.{placed}

-- N, and the calls of a table that can be placed: SPECIFICATION, Order and cycle 4
abbrev pub call_count : List ℕ → ℕ
call_count t = total (shape_of t)

unfoldable pub placed_of : List ℕ → List ℕ
placed_of t = placed (call_count t) (precedes (shape_of t))

-- 1 to 7; then 8 where there is no room for N calls; then 0 with how many were placed
unfoldable pub placing : List ℕ → ℕ → Outcome
placing t room =
    cond (eqb (refusal t) 0)
    (cond (leb (call_count t) room) (outcome 0 (length (placed_of t)) (placed_of t))
    (outcome 8 0 []))
    (outcome (refusal t) 0 [])
