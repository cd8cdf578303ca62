-- The clause of demand 2 follows from the two that determine (`clauses`).
use Rattle.std.proofs.Common.{refl, ◌∙◌}
use Rattle.sorter.proofs.Demand.{clauses}
use Rattle.sorter.proofs.order.order.Goals as goal

pub returns-in-Ok-clause-order_or_cycle : goal.returns-in-Ok-clause-order_or_cycle
returns-in-Ok-clause-order_or_cycle c =
    (clauses c.args.table.now c.args.out.now _ _ _ refl c.in-Ok.ensures.value
    c.write_order.ensures.out_after).1.1

pub returns-in-Err-clause-order_or_cycle : goal.returns-in-Err-clause-order_or_cycle
returns-in-Err-clause-order_or_cycle c =
    (clauses c.args.table.now c.args.out.now _ _ _ refl (c.from.ensures ∙ c.in-Err.ensures.value)
    c.write_order.ensures.out_after).1.1
