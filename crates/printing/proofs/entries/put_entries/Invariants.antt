-- The loop keeps what is written beside what is still to come (`Writing`).
use Prim.Native.Nat.{◌-◌}
use lib.ListN.{length}
use Rattle.printing.proofs.Listing.{Writing}
use Rattle.printing.proofs.entries.put_entries.Given as goal

abbrev pub invariant-loop-i : goal.invariant-loop-i
invariant-loop-i l = Writing l.text l.calls l.initial.out l.at l.out l.end l.i

abbrev pub decreases-loop-i : goal.decreases-loop-i
decreases-loop-i l = length l.calls - l.i
