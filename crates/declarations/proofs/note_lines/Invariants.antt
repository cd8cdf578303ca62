-- The loop keeps the places noted and those to come from place a on (`Noting`).
use Prim.Native.Nat.{◌-◌}
use lib.ListN.{length}
use Rattle.declarations.proofs.Noting.{Noting}
use Rattle.declarations.proofs.note_lines.Given as goal

abbrev pub invariant-loop-n : goal.invariant-loop-n
invariant-loop-n l = Noting l.keyword l.text l.initial.places l.places l.n l.a

abbrev pub decreases-loop-n : goal.decreases-loop-n
decreases-loop-n l = length l.text - l.a
