-- The loop keeps that the fields passed over are names.
use Prim.Native.Nat.{◌-◌, ◌≤◌}
use mathlib.Core.Path.{◌≡◌}
use Rattle.grammar.specs.Rows.{row_at}
use Rattle.grammar.specs.Lines.{faulty}
use Rattle.lines.proofs.shape.faulty.Given as goal

abbrev pub invariant-loop-i : goal.invariant-loop-i
invariant-loop-i l = (l.i ≤ l.names) × (faulty (row_at l.text l.at) l.i ≡ 0)

abbrev pub decreases-loop-i : goal.decreases-loop-i
decreases-loop-i l = l.names - l.i
