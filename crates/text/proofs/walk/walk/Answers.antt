-- The loop keeps that the lines left, with what is noted, give what all the lines give.
use Prim.Native.Nat.{◌-◌}
use native.Mathlib.Omega.{arith}
use Rattle.text.proofs.Going.{going_starts, going_room, going_on}
use Rattle.text.proofs.Going.{going_stop, going_end, told-fields}
use Rattle.text.proofs.walk.walk.Goals as goal

pub loop-at-init : goal.loop-at-init
loop-at-init c =
    going_starts _ _ _ _ c.requires.places_len.0 c.requires.places_len.1 c.requires.a_in_bounds

pub line-taken-requires : goal.line-taken-requires
line-taken-requires c =
    let told = told-fields _ _ _ c.requires.ended c.loop-at-test.true c.fields_at-fields.ensures
    in
    record {
      fit = c.loop-at.invariant.fit;
      told = told;
    }

pub returns-then-bad-ne0 : goal.returns-then-bad-ne0
returns-then-bad-ne0 c =
    let told = told-fields _ _ _ c.requires.ended c.loop-at-test.true c.fields_at-fields.ensures
    in
    going_stop _ _ _ _ _ _ _ c.loop-at.invariant _ told _ _ c.line-taken.ensures c.if-bad-ne0.true

pub overflow_cast-number : goal.overflow_cast-number
overflow_cast-number c =
    omega (arith, c.loop-at.invariant.low, c.loop-at-test.true, c.requires.ended.short)

pub note-counts-requires : goal.note-counts-requires
note-counts-requires c =
    let told = told-fields _ _ _ c.requires.ended c.loop-at-test.true c.fields_at-fields.ensures
    in
    going_room _ _ _ _ _ _ _ c.loop-at.invariant _ told _ _ c.line-taken.ensures
    c.if-bad-ne0.false

pub overflow_add-number : goal.overflow_add-number
overflow_add-number c =
    omega (arith, c.loop-at.invariant.low, c.requires.ended.short)

pub loop-at-smaller : goal.loop-at-smaller
loop-at-smaller c =
    let told = told-fields _ _ _ c.requires.ended c.loop-at-test.true c.fields_at-fields.ensures
    in
    omega (arith, c.wide-at.ensures, told.further, told.inside)

pub loop-at-preserved : goal.loop-at-preserved
loop-at-preserved c =
    let told = told-fields _ _ _ c.requires.ended c.loop-at-test.true c.fields_at-fields.ensures
    in
    going_on _ _ _ _ _ _ _ c.loop-at.invariant _ told _ _ c.line-taken.ensures _ _ _ _
    c.if-bad-ne0.false c.note-counts.ensures c.wide-at.ensures

pub returns : goal.returns
returns c =
    going_end _ _ _ _ _ _ _ c.loop-at.invariant c.loop-at-test.false
