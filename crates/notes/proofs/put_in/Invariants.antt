-- The loop keeps which slots have moved.
use Prim.Native.Nat.{◌-◌}
use Rattle.notes.proofs.Putting.{Moving}
use Rattle.notes.proofs.put_in.Given as goal

abbrev pub invariant-loop-i : goal.invariant-loop-i
invariant-loop-i l = Moving l.initial.slots l.slots l.a l.e l.i

abbrev pub decreases-loop-i : goal.decreases-loop-i
decreases-loop-i l = l.i
