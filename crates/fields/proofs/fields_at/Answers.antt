-- The loop keeps the fields before place at, and that the line goes on there (`Lexing`).
use Prim.Native.Nat.{◌-◌}
use mathlib.Core.Path.{◌∙◌}
use native.Mathlib.Omega.{arith}
use Rattle.fields.proofs.Lexing.{lexing_starts, too_long, lexing_low}
use Rattle.fields.proofs.Lexing.{lexing_lost, lexing_ends, lexing_on}
use Rattle.fields.proofs.fields_at.Goals as goal

pub returns-then-text-gt65535 : goal.returns-then-text-gt65535
returns-then-text-gt65535 c = c.none.ensures ∙ too_long _ _ c.if-text-gt65535.true

pub loop-fields-init : goal.loop-fields-init
loop-fields-init c =
    rw c.none-fields.ensures (lexing_starts _ _ c.if-text-gt65535.false)

pub returns-then-text-e : goal.returns-then-text-e
returns-then-text-e c =
    c.none-then-text-e.ensures ∙ lexing_lost c.loop-fields.invariant _ c.word_end-e.ensures
    c.if-text-e.true

pub with-more-requires : goal.with-more-requires
with-more-requires c = (
  omega (
    arith,
    c.loop-fields.invariant.few,
    lexing_low c.loop-fields.invariant _ c.word_end-e.ensures,
    c.if-text-e.false,
    c.loop-fields.invariant.small,
  ),
  omega (
    arith,
    lexing_low c.loop-fields.invariant _ c.word_end-e.ensures,
    c.if-text-e.false,
    c.loop-fields.invariant.small,
  ),
  omega (arith, c.if-text-e.false, c.loop-fields.invariant.small),
)

pub bounds-text-e : goal.bounds-text-e
bounds-text-e c = c.if-text-e.false

pub returns-then-text-e-eq10 : goal.returns-then-text-e-eq10
returns-then-text-e-eq10 c =
    c.with-more.ensures ∙ lexing_ends c.loop-fields.invariant _ c.word_end-e.ensures
    c.if-text-e.false c.if-text-e-eq10.true

pub overflow_add-at : goal.overflow_add-at
overflow_add-at c = omega (arith, c.if-text-e.false)

pub loop-fields-smaller : goal.loop-fields-smaller
loop-fields-smaller c =
    omega (arith, lexing_low c.loop-fields.invariant _ c.word_end-e.ensures, c.if-text-e.false)

pub loop-fields-preserved : goal.loop-fields-preserved
loop-fields-preserved c =
    rw c.with-more.ensures (lexing_on c.loop-fields.invariant _ c.word_end-e.ensures
    c.if-text-e.false c.if-text-e-eq10.false)
