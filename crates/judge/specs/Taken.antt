-- What a judged run answers to one call: SPECIFICATION, Judging 2 and 3.
use Rattle.std.specs.Prelude.{true, false, cond, List, ℕ, eqb, set, replicate}
use Rattle.table.specs.Packed.{shape_of}
use Rattle.table.specs.Check.{refusal}
use Rattle.judging.specs.Conditions.{refusal_at}
use Rattle.judge.specs.declared.Run.{Run}
use Rattle.judge.specs.declared.Taken.{Taken}
use Rattle.judge.specs.Marks.{marks}

-- the start, where no call is done
unfoldable pub fresh : Run
fresh = record { done = replicate 224 false }

-- the next state with 0, or the state it had with the number of the refusal
unfoldable pub advanced : Run → ℕ → ℕ → Taken
advanced run c n =
    cond (eqb n 0) (record { run = record { done = set run.done c true }; number = 0 })
    (record { run = run; number = n })

-- the table's number, 1 to 7, where it has one; else the call's, 11 to 17 or 0
unfoldable pub taken : List ℕ → Run → ℕ → Taken
taken t run c =
    advanced run c (cond (eqb (refusal t) 0) (refusal_at (shape_of t) (marks run.done) c) (refusal t))
