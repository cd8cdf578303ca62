-- One law for each return.
use native.Mathlib.Omega.{arith}
use lib.Seq.{length-take-le}
use Rattle.grammar.specs.Words.{lf}
use Rattle.text.proofs.Checks.{check-empty, check-long, check_21, check_22}
use Rattle.text.proofs.Checks.{check-passed, times-le, times-part}
use mathlib.Core.Path.{sym}
use Rattle.text.proofs.whole.check.Goals as goal

pub returns-then-size-eq0 : goal.returns-then-size-eq0
returns-then-size-eq0 c = check-empty _ c.if-size-eq0.true

pub returns-then-size-gt24576 : goal.returns-then-size-gt24576
returns-then-size-gt24576 c = check-long _ c.if-size-eq0.false c.if-size-gt24576.true

pub overflow_add-result : goal.overflow_add-result
overflow_add-result c =
    omega (arith, c.line_ends.ensures, times-le lf c.args.text.now)

pub returns-then-text-size-ne10 : goal.returns-then-text-size-ne10
returns-then-text-size-ne10 c =
    check_21 _ c.if-size-eq0.false c.if-size-gt24576.false c.if-text-size-ne10.true _
    c.line_ends.ensures

pub slice_bounds-line_ends-end : goal.slice_bounds-line_ends-end
slice_bounds-line_ends-end c = sym (length-take-le _ _ (omega arith))

pub overflow_add-result-then-bad-size : goal.overflow_add-result-then-bad-size
overflow_add-result-then-bad-size c =
    omega (
      arith,
      c.line_ends-then-bad-size.ensures,
      times-part lf c.first_bad-bad.result
          c.args.text.now (omega arith),
    )

pub returns-then-bad-size : goal.returns-then-bad-size
returns-then-bad-size c =
    check_22 _ c.if-size-eq0.false c.if-size-gt24576.false c.if-text-size-ne10.false _
    c.first_bad-bad.ensures c.if-bad-size.true _ c.line_ends-then-bad-size.ensures

pub returns : goal.returns
returns c =
    check-passed _ c.if-size-eq0.false c.if-size-gt24576.false c.if-text-size-ne10.false _
    c.first_bad-bad.ensures c.if-bad-size.false
