-- The loop keeps the fields before place at, and that the line goes on there (`Lexing`).
use Prim.Native.Nat.{◌-◌}
use lib.ListN.{length}
use Rattle.fields.proofs.Lexing.{Lexing}
use Rattle.fields.proofs.fields_at.Given as goal

abbrev pub invariant-loop-fields : goal.invariant-loop-fields
invariant-loop-fields l = Lexing l.text l.a l.fields l.at

abbrev pub decreases-loop-fields : goal.decreases-loop-fields
decreases-loop-fields l = length l.text - l.at
