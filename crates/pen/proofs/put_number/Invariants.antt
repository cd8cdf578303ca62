-- The loop keeps the digits behind place i stored (`Stored`); what it stored is put.
use Rattle.pen.proofs.Digits.{Stored}
use Rattle.pen.proofs.put_number.Given as goal

abbrev pub invariant-loop-m : goal.invariant-loop-m
invariant-loop-m l = Stored l.n l.digits l.i l.m

abbrev pub decreases-loop-m : goal.decreases-loop-m
decreases-loop-m l = l.m
