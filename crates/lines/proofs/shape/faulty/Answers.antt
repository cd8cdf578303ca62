-- The loop keeps that the fields passed over are names.
use Prim.Native.Nat.{◌-◌, ◌+◌}
use mathlib.Core.Path.{refl}
use native.Mathlib.Omega.{arith}
use Rattle.grammar.specs.Lines.{faulty}
use Rattle.lines.proofs.Counted.{faulty-first, faulty_on, no_name_empty}
use Rattle.lines.proofs.Counted.{no_name_long, a_name, field_size, faulty-none}
use Rattle.lines.proofs.shape.faulty.Goals as goal

pub loop-i-init : goal.loop-i-init
unfolding faulty
loop-i-init c = (omega arith, refl)

pub overflow_add-i : goal.overflow_add-i
overflow_add-i c = omega arith

pub overflow_sub-size : goal.overflow_sub-size
overflow_sub-size c =
    omega (
      arith,
      field_size _ _ _ _ _ _ c.requires.told
          (c.loop-i.i + 1) (omega arith) (omega arith),
    )

pub overflow_cast-result : goal.overflow_cast-result
overflow_cast-result c =
    omega (
      arith,
      c.loop-i-test.true,
      c.requires.names_bound.0,
    )

pub returns-then-size-eq0 : goal.returns-then-size-eq0
returns-then-size-eq0 c =
    faulty-first _ _ _ c.loop-i.invariant.1
    (no_name_empty _
    (omega (
      arith,
      field_size _ _ _ _ _ _ c.requires.told
          (c.loop-i.i + 1) (omega arith) (omega arith),
    ))) c.loop-i-test.true

pub overflow_cast-result-then-size-gt16 : goal.overflow_cast-result-then-size-gt16
overflow_cast-result-then-size-gt16 c =
    omega (
      arith,
      c.loop-i-test.true,
      c.requires.names_bound.0,
    )

pub returns-then-size-gt16 : goal.returns-then-size-gt16
returns-then-size-gt16 c =
    faulty-first _ _ _ c.loop-i.invariant.1
    (no_name_long _
    (omega (
      arith,
      field_size _ _ _ _ _ _ c.requires.told
          (c.loop-i.i + 1) (omega arith) (omega arith),
    ))) c.loop-i-test.true

pub loop-i-smaller : goal.loop-i-smaller
loop-i-smaller c = omega arith

pub loop-i-preserved : goal.loop-i-preserved
loop-i-preserved c = (
  omega arith,
  faulty_on _ _ c.loop-i.invariant.1
      (a_name _
      (λ e.
      c.if-size-eq0.false
      (omega (
        arith,
        field_size _ _ _ _ _ _ c.requires.told
            (c.loop-i.i + 1) (omega arith) (omega arith),
      )))
      (omega (
        arith,
        field_size _ _ _ _ _ _ c.requires.told
            (c.loop-i.i + 1) (omega arith) (omega arith),
      ))),
)

pub returns : goal.returns
returns c =
    faulty-none _ _ _ c.loop-i.invariant.0 (omega arith) c.loop-i.invariant.1
