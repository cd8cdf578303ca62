-- The numbers of what refuses a placing: SPECIFICATION, Order and cycle 9.
use Rattle.std.specs.Prelude.{ℕ, Result, Ok, Err}
use Rattle.table.specs.declared.Answer.{Answer}
use Rattle.table.specs.Fault.{fault_number}
use Rattle.placing.specs.declared.place.Refusal.{Refusal}
use Rattle.placing.specs.declared.place.Refusal.TheVariants.{Unsound, Room}

abbrev pub refusal_number : Refusal → ℕ
refusal_number (Unsound fault) = fault_number fault
refusal_number Room = 8

-- the answer where there is a refusal: its place is 0
abbrev pub refused : Refusal → Answer
refused refusal = record { number = refusal_number refusal; place = 0 }

-- 0 with how many were placed, or the refusal
abbrev pub answered : Result ℕ Refusal → Answer
answered (Ok count) = record { number = 0; place = count }
answered (Err refusal) = refused refusal
