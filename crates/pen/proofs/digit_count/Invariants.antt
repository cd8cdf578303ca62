-- The loop keeps the digits that would have been stored (`Counted`).
use Rattle.pen.proofs.Digits.{Counted}
use Rattle.pen.proofs.digit_count.Given as goal

abbrev pub invariant-loop-m : goal.invariant-loop-m
invariant-loop-m l = Counted l.n l.count l.m

abbrev pub decreases-loop-m : goal.decreases-loop-m
decreases-loop-m l = l.m
