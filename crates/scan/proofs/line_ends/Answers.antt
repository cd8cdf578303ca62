-- The loop keeps the count of LFs among the bytes passed over.
use Prim.Native.Nat.{◌-◌}
use mathlib.Core.Path.{refl, ◌∙◌}
use native.Mathlib.Omega.{arith}
use Rattle.grammar.specs.Rows.{times}
use Rattle.scan.proofs.Scanning.{counts, passes, times-all}
use Rattle.scan.proofs.line_ends.Goals as goal
use Rattle.scan.proofs.line_ends.Goals.{else-text-i-eq10, then-text-i-eq10}

pub loop-i-init : goal.loop-i-init
unfolding times
loop-i-init c = (omega arith, (omega arith, refl))

pub bounds-text-i : goal.bounds-text-i
bounds-text-i c = omega arith

pub overflow_add-count : goal.overflow_add-count
overflow_add-count c = omega arith

pub overflow_add-i : goal.overflow_add-i
overflow_add-i c = omega arith

pub loop-i-smaller : goal.loop-i-smaller
loop-i-smaller c = omega arith

pub loop-i-preserved : goal.loop-i-preserved
loop-i-preserved c =
    elim c.if-text-i-eq10.branch [
      | then-text-i-eq10 w ↦ (
        omega arith,
        (
          omega (arith, w.count-is),
          w.count-is
              ∙ counts _ _ _ c.loop-i-test.true c.loop-i.invariant.1.1
              w.if-text-i-eq10.true,
        ),
      )
      | else-text-i-eq10 w ↦ (
        omega arith,
        (
          omega (arith, w.count-is),
          w.count-is
              ∙ passes _ _ _ c.loop-i-test.true c.loop-i.invariant.1.1
              w.if-text-i-eq10.false,
        ),
      )
    ]

pub returns : goal.returns
returns c =
    c.loop-i.invariant.1.1 ∙ times-all _ _ _ c.loop-i-test.false
