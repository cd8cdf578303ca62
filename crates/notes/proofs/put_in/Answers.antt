-- The loop keeps which slots have moved.
use Prim.Native.Nat.{◌-◌}
use native.Mathlib.Omega.{arith}
use Rattle.notes.proofs.Putting.{none-moved, one-moved, all_moved, put_in_is}
use Rattle.notes.proofs.put_in.Goals as goal

pub loop-i-init : goal.loop-i-init
loop-i-init c = none-moved _ _ _ c.requires.a_le_e.0

pub overflow_sub-slots : goal.overflow_sub-slots
overflow_sub-slots c = omega arith

pub bounds-slots-i : goal.bounds-slots-i
bounds-slots-i c = omega (arith, c.loop-i.invariant.high, c.requires.a_le_e.1)

pub bounds-slots-i-in-loop-i : goal.bounds-slots-i-in-loop-i
bounds-slots-i-in-loop-i c =
    omega (
      arith,
      c.loop-i.invariant.high,
      c.loop-i.invariant.long,
      c.requires.a_le_e.1,
      c.requires.slots_len,
    )

pub overflow_sub-i : goal.overflow_sub-i
overflow_sub-i c = omega arith

pub loop-i-smaller : goal.loop-i-smaller
loop-i-smaller c = omega arith

pub loop-i-preserved : goal.loop-i-preserved
loop-i-preserved c =
    one-moved _ _ _ _ _ c.loop-i.invariant (omega (
      arith,
      c.requires.a_le_e.1,
      c.requires.slots_len,
    )) c.loop-i-test.true

pub bounds-slots-a : goal.bounds-slots-a
bounds-slots-a c =
    omega (
      arith,
      c.loop-i.invariant.low,
      c.loop-i.invariant.high,
      c.loop-i.invariant.long,
      c.requires.a_le_e.1,
      c.requires.slots_len,
    )

pub returns : goal.returns
returns c =
    put_in_is _ _ _ _ c.requires.a_le_e.0 _
    (all_moved _ _ _ _ _ c.loop-i.invariant (omega (
      arith,
      c.requires.a_le_e.1,
      c.requires.slots_len,
    )) (omega arith) _)
