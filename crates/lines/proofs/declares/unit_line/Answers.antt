-- One law for each return.
use native.Mathlib.Omega.{arith}
use Rattle.lines.proofs.Outcomes.{stops, shape_refused, handed}
use Rattle.lines.proofs.Counted.{shape_lets, has_field, unit-stops}
use Rattle.lines.proofs.Declared.{unit_26, unit_29, unit-takes}
use Rattle.lines.proofs.declares.unit_line.Goals as goal

pub returns-then-bad-ne0 : goal.returns-then-bad-ne0
returns-then-bad-ne0 c =
    shape_refused _ _ _ _ _ _ _ _ _ _ _ c.shape-bad.ensures c.if-bad-ne0.true
    (unit-stops _ _ c.args.line _ c.if-bad-ne0.true c.shape-bad.ensures.number)

pub word-name-requires : goal.word-name-requires
word-name-requires c =
    record {
      told = c.requires.told;
      i_bound = (
        omega arith,
        has_field _ _ _ _ _ _ c.requires.told 2 1 _ 1
            c.shape-bad.ensures.number c.if-bad-ne0.false (omega arith),
      );
    }

pub seek-unit-requires : goal.seek-unit-requires
seek-unit-requires c =
    record {
      ranked = c.requires.fit.units-ranked;
      wordy = c.word-name.ensures.wordy;
    }

pub returns-then-unit : goal.returns-then-unit
returns-then-unit c =
    let lets = shape_lets _ 2 1 _ c.shape-bad.ensures.number c.if-bad-ne0.false in
    stops _ _ _ _ _ _ _ 26 2 _ c.refused.ensures (λ z. omega arith)
    (unit_26 _ _ _ _ c.requires.fit _ _
    c.requires.told c.args.line lets _ c.word-name.ensures.result_value _ _ c.seek-unit.ensures
    c.if-unit.true)

pub returns-then-units-ge32 : goal.returns-then-units-ge32
returns-then-units-ge32 c =
    let lets = shape_lets _ 2 1 _ c.shape-bad.ensures.number c.if-bad-ne0.false in
    stops _ _ _ _ _ _ _ 29 0 _ c.refused-then-units-ge32.ensures (λ z. omega arith)
    (unit_29 _ _ _ _ c.requires.fit _ _
    c.requires.told c.args.line lets _ c.word-name.ensures.result_value _ _ c.seek-unit.ensures
    c.if-unit.false c.if-units-ge32.true)

pub named-requires : goal.named-requires
named-requires c = (
  omega arith,
  omega (
    arith,
    (c.seek-unit.ensures.free c.if-unit.false).high,
    c.if-units-ge32.false,
  ),
)

pub returns : goal.returns
returns c =
    let lets = shape_lets _ 2 1 _ c.shape-bad.ensures.number c.if-bad-ne0.false in
    handed c.named.ensures (unit-takes _ _ _ _ c.requires.fit _ _ c.requires.told c.args.line lets
    _ c.word-name.ensures.result_value _ _ c.seek-unit.ensures c.if-unit.false
    c.if-units-ge32.false)
