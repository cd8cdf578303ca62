-- Each public function's contract asks nothing and permits one answer, with every lent byte.
use mathlib.Core.Path.{ap, sym, ◌∙◌}
use Prim.Native.Nat.{◌≤◌}
use lib.ListN.{length, take}
use Rattle.search.specs.Settling.{Settles, Says}
use Rattle.table.specs.Sound.{Sound}
use Rattle.placing.specs.Placing.{call_count}
use Rattle.sorter.specs.OrderOrCycle.{OrderOrCycle}
use Rattle.sorter.proofs.order.order.Kinds as order
use Rattle.sorter.proofs.order.order.Reads as order-says

pub order-settled : Settles order.ps order.r order-says.Asked order-says.Learnt
order-settled = (
  (λ κs a. tt),
  (λ κs a x y w v p q. (p.0 ∙ sym q.0, ap (λ l. (tt, (l, tt))) (p.1.0 ∙ sym q.1.0))),
)

-- demand 2 in the declared words, for a sound table and enough room
pub order_demand : Says order.ps order.r order-says.Learnt (λ κs a r w. (
    Sound a.0.now → call_count a.0.now ≤ length a.1.0.now
    → OrderOrCycle a.0.now r (take r.place w.1.0)))
order_demand κs a x w p = p.1.1
