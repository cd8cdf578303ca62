-- The loop keeps the count of LFs among the bytes passed over.
use Prim.Native.Nat.{◌-◌, ◌≤◌}
use mathlib.Core.Path.{◌≡◌}
use lib.ListN.{length, take}
use Rattle.grammar.specs.Words.{lf}
use Rattle.grammar.specs.Rows.{times}
use Rattle.scan.proofs.line_ends.Given as goal

abbrev pub invariant-loop-i : goal.invariant-loop-i
invariant-loop-i l = (l.i ≤ length l.text) × ((l.count ≤ l.i) ×
    (l.count ≡ times lf (take l.i l.text)))

abbrev pub decreases-loop-i : goal.decreases-loop-i
decreases-loop-i l = length l.text - l.i
