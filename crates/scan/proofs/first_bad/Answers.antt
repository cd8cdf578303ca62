-- The loop keeps that every byte passed over is allowed.
use Prim.Native.Nat.{◌-◌}
use mathlib.Core.Path.{sym, ◌∙◌}
use native.Mathlib.Omega.{arith}
use borrow.Author.Count.{below_more}
use borrow.Author.Tests.{not-true, not-false}
use Rattle.search.specs.Least.{found, not_found}
use Rattle.search.specs.Truth.{fails}
use Rattle.scan.proofs.Scanning.{bad_least}
use Rattle.scan.proofs.first_bad.Goals as goal

pub loop-i-init : goal.loop-i-init
loop-i-init c = (omega arith, λ k h. absurd (omega arith))

pub bounds-text-i : goal.bounds-text-i
bounds-text-i c = omega arith

pub returns-then-not-is_allowed : goal.returns-then-not-is_allowed
returns-then-not-is_allowed c =
    found _ _ _ c.loop-i-test.true c.loop-i.invariant.1
    (fails _ (sym c.is_allowed.ensures ∙ not-true _ c.if-not-is_allowed.true-raw))
    ∙ sym (bad_least _)

pub overflow_add-i : goal.overflow_add-i
overflow_add-i c = omega arith

pub loop-i-smaller : goal.loop-i-smaller
loop-i-smaller c = omega arith

pub loop-i-preserved : goal.loop-i-preserved
loop-i-preserved c = (
  omega arith,
  below_more _ _ c.loop-i.invariant.1 (rw (sym c.is_allowed.ensures ∙ not-false _
      c.if-not-is_allowed.false-raw) tt),
)

pub returns : goal.returns
returns c =
    not_found _ _ _ (omega arith) c.loop-i.invariant.0 c.loop-i.invariant.1 ∙ sym (bad_least _)
