-- The loop keeps the digits that would have been stored (`Counted`).
use Rattle.pen.proofs.Digits.{counted_starts, counted-few, counted_on, counted-ends}
use native.Mathlib.Omega.{arith}
use Rattle.pen.proofs.digit_count.Goals as goal

pub loop-m-init : goal.loop-m-init
loop-m-init c = counted_starts _ (omega arith)

pub overflow_add-count : goal.overflow_add-count
overflow_add-count c = omega (arith, counted-few c.loop-m.invariant)

pub loop-m-preserved : goal.loop-m-preserved
loop-m-preserved c = counted_on c.loop-m.invariant c.loop-m-test.true

pub returns : goal.returns
returns c = counted-ends c.loop-m.invariant c.loop-m-test.false
