-- The loop keeps what is left of the room beside what is still to come (`Fitting`).
use Prim.Native.Nat.{◌-◌}
use lib.ListN.{length}
use Rattle.printing.proofs.Listing.{Fitting}
use Rattle.printing.proofs.entries.entries_fit.Given as goal

abbrev pub invariant-loop-i : goal.invariant-loop-i
invariant-loop-i l = Fitting l.text l.calls l.room l.left l.i

abbrev pub decreases-loop-i : goal.decreases-loop-i
decreases-loop-i l = length l.calls - l.i
