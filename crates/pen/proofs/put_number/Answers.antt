-- The loop keeps the digits behind place i stored (`Stored`); what it stored is put.
use Rattle.pen.proofs.Digits.{stored_starts, stored_on, stored_ends, spelling_some}
use Rattle.pen.specs.Chain.{put-long}
use Prim.Native.Nat.{◌+◌}
use lib.ListN.{length-set}
use native.Mathlib.Omega.{arith}
use mathlib.Core.Path.{refl}
use Rattle.pen.proofs.put_number.Goals as goal

pub loop-m-init : goal.loop-m-init
loop-m-init c = stored_starts _ _ refl (omega arith)

pub bounds-digits-i : goal.bounds-digits-i
bounds-digits-i c = omega (arith, c.loop-m.invariant.within)

pub overflow_sub-i : goal.overflow_sub-i
overflow_sub-i c =
    omega (arith, spelling_some c.loop-m.invariant.left c.loop-m-test.true)

pub loop-m-preserved : goal.loop-m-preserved
loop-m-preserved c = stored_on c.loop-m.invariant c.loop-m-test.true

pub bounds-digits-i-2 : goal.bounds-digits-i-2
bounds-digits-i-2 c = omega (arith, c.loop-m.invariant.within)

pub slice_bounds-put-count : goal.slice_bounds-put-count
slice_bounds-put-count c = omega (arith, c.loop-m.invariant.within)

pub slice_bounds-put-start : goal.slice_bounds-put-start
slice_bounds-put-start c = omega (arith, c.loop-m.invariant.within)

pub slice_bounds-put-end : goal.slice_bounds-put-end
slice_bounds-put-end c =
    omega (
      arith,
      c.loop-m.invariant.room,
      length-set c.loop-m.digits c.loop-m.i
          (48 + c.loop-m.m),
    )

pub shape_of-out : goal.shape_of-out
shape_of-out c = put-long c.put.ensures

pub returns : goal.returns
returns c =
    rw (stored_ends c.loop-m.invariant c.loop-m-test.false) at c.put.ensures
