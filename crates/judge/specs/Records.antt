-- The firmware's own schedule, records read as call numbers: SPECIFICATION, Records 2.
use Rattle.std.specs.Prelude.{cond, List, [], ◌∷◌, ℕ, eqb, ltb}
use Rattle.table.specs.Shape.{Shape, total}
use Rattle.calls.specs.Number.{step_no, get_no, set_no}
use Rattle.judge.specs.declared.records.Record.{Record}

-- kinds 0, 1 and 2 are step, get and set, each with numbers of its own;
-- another kind, or a number as high as its kind's count, is read as N, which is no call
unfoldable pub numbered : Shape → Record → ℕ
numbered s r =
    cond (eqb r.kind 0) (cond (ltb r.number s.units) (step_no r.number) (total s))
    (cond (eqb r.kind 1) (cond (ltb r.number s.outputs) (get_no s r.number) (total s))
    (cond (eqb r.kind 2) (cond (ltb r.number s.inputs) (set_no s r.number) (total s))
    (total s)))

-- the numbered form of a list of records
unfoldable pub all_numbered : Shape → List Record → List ℕ
all_numbered s [] = []
all_numbered s (r ∷ rs) = numbered s r ∷ all_numbered s rs
