-- The loop keeps that the bytes passed over are the same in both.
use Prim.Native.Nat.{◌-◌}
use native.Mathlib.Omega.{arith}
use borrow.Author.Count.{below_more}
use Rattle.search.specs.Least.{found, not_found}
use Rattle.names.proofs.Stretches.{shorter-first, shorter-second, alike_at, differ-at}
use Rattle.names.proofs.words.common.Goals as goal

pub loop-i-init : goal.loop-i-init
loop-i-init c =
    (c.length_of_shorter-most.ensures, (omega arith, λ k h. absurd (omega arith)))

pub bounds-p-i : goal.bounds-p-i
bounds-p-i c =
    omega (
      arith,
      c.loop-i.invariant.0,
      shorter-first
          c.args.p.now
          c.args.q.now,
    )

pub bounds-q-i : goal.bounds-q-i
bounds-q-i c =
    omega (
      arith,
      c.loop-i.invariant.0,
      shorter-second
          c.args.p.now
          c.args.q.now,
    )

pub returns-then-p-i : goal.returns-then-p-i
returns-then-p-i c =
    found _ _ _ (omega (arith, c.loop-i.invariant.0))
    c.loop-i.invariant.1.1 (differ-at _ _ _ c.if-p-i.true)

pub overflow_add-i : goal.overflow_add-i
overflow_add-i c = omega arith

pub loop-i-smaller : goal.loop-i-smaller
loop-i-smaller c = omega arith

pub loop-i-preserved : goal.loop-i-preserved
loop-i-preserved c = (
  c.loop-i.invariant.0,
  (
    omega arith,
    below_more _ _
        c.loop-i.invariant.1.1 (alike_at _ _ _ c.if-p-i.false),
  ),
)

pub returns : goal.returns
returns c =
    not_found _ _ _ (omega (arith, c.loop-i.invariant.0)) (omega (
      arith,
      c.loop-i.invariant.0,
      c.loop-i.invariant.1.0,
    )) c.loop-i.invariant.1.1
