-- The numbers and places of what `order` refuses: SPECIFICATION, Order and cycle 9.
use Rattle.std.specs.Prelude.{ℕ, Result, Ok, Err}
use Rattle.table.specs.declared.Answer.{Answer}
use Rattle.table.specs.Fault.{fault_number}
use Rattle.sorter.specs.declared.order.NoOrder.{NoOrder}
use Rattle.sorter.specs.declared.order.NoOrder.TheVariants.{Unsound, Room, Cycle}

abbrev pub no_order_number : NoOrder → ℕ
no_order_number (Unsound fault) = fault_number fault
no_order_number Room = 8
no_order_number (Cycle length) = 9

-- the place of 9 is the cycle's length, of the others 0
abbrev pub no_order_place : NoOrder → ℕ
no_order_place (Unsound fault) = 0
no_order_place Room = 0
no_order_place (Cycle length) = length

abbrev pub refused : NoOrder → Answer
refused why = record { number = no_order_number why; place = no_order_place why }

-- 0 and the place is how many calls were placed
abbrev pub answered : Result ℕ NoOrder → Answer
answered (Ok count) = record { number = 0; place = count }
answered (Err why) = refused why
