-- Room is tested without a sum that could wrap.
use Prim.Native.Nat.{◌-◌}
use Rattle.pen.proofs.Putting.{room-none, room-some}
use Rattle.pen.proofs.has_room.Goals as goal

pub returns-then-size-n : goal.returns-then-size-n
returns-then-size-n c = room-none _ _ _ c.if-size-n.true

pub returns : goal.returns
returns c = room-some _ _ _ c.if-size-n.false
