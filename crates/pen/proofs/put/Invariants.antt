-- The loop keeps the first i bytes written over the buffer (`Putting`).
use Prim.Native.Nat.{◌-◌}
use lib.ListN.{length}
use Rattle.pen.proofs.Putting.{Putting}
use Rattle.pen.proofs.put.Given as goal

abbrev pub invariant-loop-i : goal.invariant-loop-i
invariant-loop-i l = Putting l.initial.out l.at l.s l.out l.i

abbrev pub decreases-loop-i : goal.decreases-loop-i
decreases-loop-i l = length l.s - l.i
