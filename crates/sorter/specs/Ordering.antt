-- What `order` answers, and the bytes at the buffer's front: SPECIFICATION, Order and cycle 9.
use Rattle.std.specs.Prelude.{cond, List, [], ℕ, eqb, leb, length}
use Rattle.table.specs.Packed.{shape_of}
use Rattle.table.specs.Check.{refusal}
use Rattle.calls.specs.Precedence.{precedes}
use Rattle.orders.specs.Walk.{among}
use Rattle.orders.specs.Turn.{shown}
use Rattle.table.specs.Outcome.{Outcome, outcome}
use Rattle.placing.specs.Placing.{call_count, placed_of}

-- the cycle of what remains, where not all can be placed
unfoldable pub shown_of : List ℕ → List ℕ
shown_of t = shown (call_count t) (precedes (shape_of t)) (among (placed_of t))

-- 0 with N where all were placed; else 9 with the cycle's length
unfoldable pub settled : List ℕ → Outcome
settled t =
    cond (eqb (length (placed_of t)) (call_count t)) (outcome 0 (call_count t) (placed_of t))
    (outcome 9 (length (shown_of t)) (shown_of t))

-- 1 to 7; then 8 where there is no room for N calls; then 0 or 9
unfoldable pub ordering : List ℕ → ℕ → Outcome
ordering t room =
    cond (eqb (refusal t) 0)
    (cond (leb (call_count t) room) (settled t) (outcome 8 0 []))
    (outcome (refusal t) 0 [])
