-- The loop keeps the places noted and those to come from place a on (`Noting`).
use Prim.Native.Nat.{◌-◌}
use native.Mathlib.Omega.{arith}
use Rattle.declarations.proofs.Noting.{noting_starts, noting_on, noting_ends}
use Rattle.declarations.proofs.Noting.{noting_full, line-further, line-inside}
use Rattle.declarations.proofs.note_lines.Goals as goal

pub loop-n-init : goal.loop-n-init
loop-n-init c = noting_starts _ _ _

pub shape_of-places-then-fields-eq0 : goal.shape_of-places-then-fields-eq0
shape_of-places-then-fields-eq0 c = c.loop-n.invariant.noted.long

pub returns-then-fields-eq0 : goal.returns-then-fields-eq0
returns-then-fields-eq0 c =
    noting_ends c.loop-n.invariant c.fields_at-fields.ensures c.if-fields-eq0.true

pub note-n-requires : goal.note-n-requires
note-n-requires c =
    (c.fields_at-fields.ensures, omega (arith, c.if-fields-eq0.false), c.loop-n-test.true)

pub loop-n-smaller : goal.loop-n-smaller
loop-n-smaller c =
    omega (
      arith,
      line-further _ _ _ c.fields_at-fields.ensures (omega (arith, c.if-fields-eq0.false)),
      line-inside _ _ _ c.fields_at-fields.ensures (omega (arith, c.if-fields-eq0.false)),
    )

pub loop-n-preserved : goal.loop-n-preserved
loop-n-preserved c =
    noting_on c.loop-n.invariant c.fields_at-fields.ensures (omega (arith, c.if-fields-eq0.false))
    c.loop-n-test.true c.note-n.ensures

pub shape_of-places : goal.shape_of-places
shape_of-places c = c.loop-n.invariant.noted.long

pub returns : goal.returns
returns c = noting_full c.loop-n.invariant c.loop-n-test.false
