-- The line's length is that of its fields and the four bytes that end them.
use Rattle.pen.specs.Chain.{decimal-long}
use native.Mathlib.Omega.{arith}
use mathlib.Core.Path.{sym}
use Rattle.printing.specs.Lengths.{entry-long}
use Rattle.printing.proofs.line.entry_length.Goals as goal

pub overflow_add-result : goal.overflow_add-result
overflow_add-result c = omega (arith, decimal-long c.args.k)

pub overflow_add-result-2 : goal.overflow_add-result-2
overflow_add-result-2 c = omega (arith, decimal-long c.args.k)

pub overflow_add-result-3 : goal.overflow_add-result-3
overflow_add-result-3 c = omega (arith, decimal-long c.args.k)

pub overflow_add-result-4 : goal.overflow_add-result-4
overflow_add-result-4 c = omega (arith, decimal-long c.args.k)

pub returns : goal.returns
returns c = rw c.digit_count.ensures (sym (entry-long _ _ _ _))
