-- The place that `order` answers is small enough.
use Rattle.firmware.specs.Places.{order-most}
use Rattle.firmware.proofs.oorlichday_order.Goals as goal

pub code-requires : goal.code-requires
code-requires c = rw c.order.ensures.value (order-most _ _)
