-- The numbers of refusals, and the answers that they give: SPECIFICATION, Judging 3, 4 and 7.
use Rattle.std.specs.Prelude.{ℕ, Result, Ok, Err}
use Rattle.table.specs.declared.Answer.{Answer}
use Rattle.table.specs.declared.Fault.{Fault}
use Rattle.table.specs.Fault.{fault_number}
use Rattle.judge.specs.declared.refusal.Stop.{Stop}
use Rattle.judge.specs.declared.refusal.Refusal.{Refusal}
use Rattle.judge.specs.declared.refusal.Refusal.TheVariants.{
  Unsound,
  NoCall,
  DoneBefore,
  DelayedSet,
  ReactiveNotSet,
  NotStepped,
  FeedingNotSet,
  SourceNotGot,
  Ended,
}

-- the number of a refusal
abbrev pub refusal_number : Refusal → ℕ
refusal_number (Unsound fault) = fault_number fault
refusal_number NoCall = 11
refusal_number DoneBefore = 12
refusal_number DelayedSet = 13
refusal_number ReactiveNotSet = 14
refusal_number NotStepped = 15
refusal_number FeedingNotSet = 16
refusal_number SourceNotGot = 17
refusal_number Ended = 18

-- the number that a call is answered: 0 where it is not refused
abbrev pub number_of : {A : Type 0} → Result A Refusal → ℕ
number_of (Ok a) = 0
number_of (Err refusal) = refusal_number refusal

-- an unsound table is refused at place 0
abbrev pub unsound : Fault → Stop
unsound fault = record { refusal = Unsound fault; place = 0 }

-- the answer where the judging stops
abbrev pub told : Stop → Answer
told stop = record { number = refusal_number stop.refusal; place = stop.place }

-- the answer to an order: 0 with how many calls were taken, or where the judging stops
abbrev pub answer_of : Result ℕ Stop → Answer
answer_of (Ok taken) = record { number = 0; place = taken }
answer_of (Err stop) = told stop
