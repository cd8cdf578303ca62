-- The loop keeps the first i bytes written over the buffer (`Putting`).
use Prim.Native.Nat.{◌-◌}
use mathlib.Core.Path.{sym, ◌∙◌}
use borrow.Author.Tests.{not-true, not-false, leb-true, leb-false}
use native.Mathlib.Omega.{arith}
use Rattle.pen.specs.Chain.{put-nothing}
use Rattle.pen.proofs.Putting.{putting_starts, putting_on, putting_ends}
use Rattle.pen.proofs.put.Goals as goal

pub returns-then-not-has_room : goal.returns-then-not-has_room
returns-then-not-has_room c =
    put-nothing _ _ _ (leb-false _ _ (sym c.has_room.ensures ∙ not-true _
    c.if-not-has_room.true-raw))

pub loop-i-init : goal.loop-i-init
loop-i-init c =
    putting_starts _ _ _ (leb-true _ _ (sym c.has_room.ensures ∙ not-false _
    c.if-not-has_room.false-raw))

pub bounds-out-at : goal.bounds-out-at
bounds-out-at c =
    omega (arith, c.loop-i.invariant.room, c.loop-i.invariant.long)

pub loop-i-preserved : goal.loop-i-preserved
loop-i-preserved c = putting_on c.loop-i.invariant c.loop-i-test.true

pub shape_of-out : goal.shape_of-out
shape_of-out c = c.loop-i.invariant.long

pub returns : goal.returns
returns c = putting_ends c.loop-i.invariant c.loop-i-test.false
