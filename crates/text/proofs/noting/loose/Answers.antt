-- The loop keeps that every input passed over is joined.
use Prim.Native.Nat.{◌-◌}
use mathlib.Core.Path.{◌∙◌}
use native.Mathlib.Omega.{arith}
use borrow.Author.Count.{below_more}
use Rattle.search.specs.Least.{found, not_found}
use Rattle.search.specs.Truth.{eq_true, eq_false}
use Rattle.notes.specs.Notes.{is_loose}
use Rattle.notes.proofs.Slots.{loose-found}
use Rattle.text.proofs.noting.loose.Goals as goal

pub loop-x-init : goal.loop-x-init
loop-x-init c = (omega arith, λ k h. absurd (omega arith))

pub overflow_add-x : goal.overflow_add-x
overflow_add-x c = omega (arith, c.requires.inputs-most)

pub bounds-slots-x : goal.bounds-slots-x
bounds-slots-x c = omega (arith, c.requires.inputs-most)

pub returns-then-slots-x : goal.returns-then-slots-x
unfolding is_loose
returns-then-slots-x c =
    found _ _ _ c.loop-x-test.true c.loop-x.invariant.1 (eq_true _ _ c.if-slots-x.true) ∙
    loose-found _ _ _ _

pub overflow_add-x-in-loop-x : goal.overflow_add-x-in-loop-x
overflow_add-x-in-loop-x c = omega arith

pub loop-x-smaller : goal.loop-x-smaller
loop-x-smaller c = omega arith

pub loop-x-preserved : goal.loop-x-preserved
unfolding is_loose
loop-x-preserved c =
    (omega arith, below_more _ _ c.loop-x.invariant.1 (eq_false _ _ c.if-slots-x.false))

pub returns : goal.returns
returns c =
    not_found _ _ _ (omega arith) c.loop-x.invariant.0 c.loop-x.invariant.1 ∙ loose-found _ _ _ _
