-- The numbers of a table's faults: SPECIFICATION, Packed table 6.
use Rattle.std.specs.Prelude.{ℕ, Result}
use Rattle.std.specs.Prelude.{Ok, Err}
use Rattle.table.specs.declared.Answer.{Answer}
use Rattle.table.specs.declared.Fault.{Fault}
use Rattle.table.specs.declared.Fault.TheVariants.{
  Length,
  Count,
  Owner,
  Kind,
  Source,
  Feed,
  FeedTwice,
}

abbrev pub fault_number : Fault → ℕ
fault_number Length = 1
fault_number Count = 2
fault_number Owner = 3
fault_number Kind = 4
fault_number Source = 5
fault_number Feed = 6
fault_number FeedTwice = 7

-- the number of what a check gives: 0 where there is no fault
abbrev pub number_of : {A : Type 0} → Result A Fault → ℕ
number_of (Ok a) = 0
number_of (Err fault) = fault_number fault

-- the answer where there is a fault: its place is 0
abbrev pub refused : Fault → Answer
refused fault = record { number = fault_number fault; place = 0 }
