-- One law for each return.
use native.Mathlib.Omega.{arith}
use Rattle.lines.proofs.Outcomes.{shaped}
use Rattle.lines.proofs.Counted.{shape_count, shape_name, shape_good, faulty-small}
use Rattle.lines.proofs.shape.shape.Goals as goal

pub returns-then-fields-count : goal.returns-then-fields-count
returns-then-fields-count c =
    shaped _ _ _ _ _ _ c.refused.ensures (shape_count _ _ _ _ c.requires.told.count-is
    c.if-fields-count.true)

pub overflow_add-bad : goal.overflow_add-bad
overflow_add-bad c =
    omega (
      arith,
      faulty-small _ _ _ c.faulty-bad.ensures c.requires.names_bound.0,
    )

pub returns-then-bad-ne0 : goal.returns-then-bad-ne0
returns-then-bad-ne0 c =
    shaped _ _ _ _ _ _ c.refused-then-bad-ne0.ensures
    (shape_name _ _ _ _ c.requires.told.count-is _ c.if-fields-count.false c.faulty-bad.ensures
    c.if-bad-ne0.true)

pub returns : goal.returns
returns c =
    shaped _ _ _ _ _ _ c.refused-2.ensures (shape_good _ _ _ _ c.requires.told.count-is _
    c.if-fields-count.false c.faulty-bad.ensures c.if-bad-ne0.false)
