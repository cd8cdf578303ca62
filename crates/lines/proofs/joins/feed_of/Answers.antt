-- The loop keeps that no feed passed over is the one sought.
use Prim.Native.Nat.{◌-◌}
use native.Mathlib.Omega.{arith}
use borrow.Author.Count.{below_more}
use Rattle.search.specs.Least.{found, not_found}
use Rattle.notes.proofs.Slots.{fed-here, other-input, other-output}
use borrow.Author.Tests.{eqb-true, eqb-false}
use Rattle.lines.proofs.joins.feed_of.Goals as goal
use Rattle.lines.proofs.joins.feed_of.Goals.{
  else-slots-k-via-else-slots-k,
  else-slots-k-via-then-slots-k+else-slots-k-2,
}

pub loop-k-init : goal.loop-k-init
loop-k-init c = (omega arith, λ k h. absurd (omega arith))

pub overflow_mul-k : goal.overflow_mul-k
overflow_mul-k c = omega (arith, c.requires)

pub overflow_add-k : goal.overflow_add-k
overflow_add-k c = omega (arith, c.requires)

pub bounds-slots-k : goal.bounds-slots-k
bounds-slots-k c = omega (arith, c.requires)

pub overflow_mul-k-then-slots-k : goal.overflow_mul-k-then-slots-k
overflow_mul-k-then-slots-k c = omega (arith, c.requires)

pub overflow_add-k-then-slots-k : goal.overflow_add-k-then-slots-k
overflow_add-k-then-slots-k c = omega (arith, c.requires)

pub bounds-slots-k-then-slots-k : goal.bounds-slots-k-then-slots-k
bounds-slots-k-then-slots-k c = omega (arith, c.requires)

pub returns-then-slots-k-2 : goal.returns-then-slots-k-2
returns-then-slots-k-2 c =
    found _ _ _ c.loop-k-test.true
    c.loop-k.invariant.1
    (fed-here _ _ _ _ c.if-slots-k.true (eqb-true _ _ c.if-slots-k-2.true-raw))

pub overflow_add-k-in-loop-k : goal.overflow_add-k-in-loop-k
overflow_add-k-in-loop-k c = omega arith

pub loop-k-smaller : goal.loop-k-smaller
loop-k-smaller c = omega arith

pub loop-k-preserved : goal.loop-k-preserved
loop-k-preserved c = (
  omega arith,
  below_more _ _ c.loop-k.invariant.1
      (elim c.else-slots-k.branch [
        | else-slots-k-via-then-slots-k+else-slots-k-2 w ↦
            other-output _ _ _ _ w.if-slots-k.true (eqb-false _ _ w.if-slots-k-2.false-raw)
        | else-slots-k-via-else-slots-k w ↦ other-input _ _ _ _ w.if-slots-k.false
      ]),
)

pub returns : goal.returns
returns c =
    not_found _ _ _ (omega arith) c.loop-k.invariant.0 c.loop-k.invariant.1
