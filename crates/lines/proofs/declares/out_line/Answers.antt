-- One law for each return.
use native.Mathlib.Omega.{arith}
use Rattle.lines.proofs.Outcomes.{stops, shape_refused, handed}
use Rattle.lines.proofs.Counted.{shape_lets, has_field, out_stops}
use Rattle.lines.proofs.Declared.{out_27, out_26, out_29, out_takes}
use Rattle.lines.proofs.declares.out_line.Goals as goal

pub returns-then-bad-ne0 : goal.returns-then-bad-ne0
returns-then-bad-ne0 c =
    shape_refused _ _ _ _ _ _ _ _ _ _ _ c.shape-bad.ensures c.if-bad-ne0.true
    (out_stops _ _ c.args.line _ c.if-bad-ne0.true
    c.shape-bad.ensures.number)

pub word-owner-requires : goal.word-owner-requires
word-owner-requires c =
    record {
      told = c.requires.told;
      i_bound = (
        omega arith,
        has_field _ _ _ _ _ _ c.requires.told 3 2 _ 1
            c.shape-bad.ensures.number c.if-bad-ne0.false (omega arith),
      );
    }

pub find-u-requires : goal.find-u-requires
find-u-requires c =
    record {
      ranked = c.requires.fit.units-ranked;
      wordy = c.word-owner.ensures.wordy;
    }

pub returns-then-units-u : goal.returns-then-units-u
returns-then-units-u c =
    let lets = shape_lets _ 3 2 _ c.shape-bad.ensures.number c.if-bad-ne0.false in
    stops _ _ _ _ _ _ _ 27 2 _ c.refused.ensures (λ z. omega arith)
    (out_27 _ _ _ _ c.requires.fit _ _ c.requires.told
    c.args.line lets _ c.word-owner.ensures.result_value _ c.find-u.ensures c.if-units-u.true)

pub word-name-requires : goal.word-name-requires
word-name-requires c =
    record {
      told = c.requires.told;
      i_bound = (
        omega arith,
        has_field _ _ _ _ _ _ c.requires.told 3 2 _ 2
            c.shape-bad.ensures.number c.if-bad-ne0.false (omega arith),
      );
    }

pub overflow_cast-u : goal.overflow_cast-u
overflow_cast-u c =
    omega (
      arith,
      c.if-units-u.false,
      c.requires.fit.units-most,
    )

pub seek-output-requires : goal.seek-output-requires
seek-output-requires c =
    record {
      ranked = c.requires.fit.outputs-ranked;
      wordy = c.word-name.ensures.wordy;
    }

pub returns-then-output : goal.returns-then-output
returns-then-output c =
    let lets = shape_lets _ 3 2 _ c.shape-bad.ensures.number c.if-bad-ne0.false in
    stops _ _ _ _ _ _ _ 26 3 _ c.refused-then-output.ensures (λ z. omega arith)
    (out_26 _ _ _ _ c.requires.fit _ _
    c.requires.told c.args.line lets _ c.word-owner.ensures.result_value _ c.find-u.ensures
    c.if-units-u.false _ c.word-name.ensures.result_value _ _ c.seek-output.ensures
    c.if-output.true)

pub returns-then-outputs-ge96 : goal.returns-then-outputs-ge96
returns-then-outputs-ge96 c =
    let lets = shape_lets _ 3 2 _ c.shape-bad.ensures.number c.if-bad-ne0.false in
    stops _ _ _ _ _ _ _ 29 0 _ c.refused-then-outputs-ge96.ensures (λ z. omega arith)
    (out_29 _ _ _ _ c.requires.fit _ _
    c.requires.told c.args.line lets _ c.word-owner.ensures.result_value _ c.find-u.ensures
    c.if-units-u.false _ c.word-name.ensures.result_value _ _ c.seek-output.ensures
    c.if-output.false c.if-outputs-ge96.true)

pub named-requires : goal.named-requires
named-requires c = (
  omega (
    arith,
    c.if-units-u.false,
    c.requires.fit.units-most,
  ),
  omega (
    arith,
    (c.seek-output.ensures.free c.if-output.false
        ).high,
    c.if-outputs-ge96.false,
  ),
)

pub returns : goal.returns
returns c =
    let lets = shape_lets _ 3 2 _ c.shape-bad.ensures.number c.if-bad-ne0.false in
    handed c.named.ensures (out_takes _ _ _ _ c.requires.fit _ _ c.requires.told c.args.line lets
    _ c.word-owner.ensures.result_value _ c.find-u.ensures c.if-units-u.false _
    c.word-name.ensures.result_value _ _ c.seek-output.ensures c.if-output.false
    c.if-outputs-ge96.false)
