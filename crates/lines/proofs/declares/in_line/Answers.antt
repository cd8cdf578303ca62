-- One law for each return.
use native.Mathlib.Omega.{arith}
use Rattle.lines.proofs.Outcomes.{stops, shape_refused, handed}
use Rattle.lines.proofs.Counted.{shape_lets, has_field, in_stops}
use Rattle.lines.proofs.Declared.{in_28, in_27, in_26, in_29, in_takes}
use Rattle.lines.proofs.declares.in_line.Goals as goal

pub returns-then-bad-ne0 : goal.returns-then-bad-ne0
returns-then-bad-ne0 c =
    shape_refused _ _ _ _ _ _ _ _ _ _ _ c.shape-bad.ensures c.if-bad-ne0.true
    (in_stops _ _ _ _ c.if-bad-ne0.true
    c.shape-bad.ensures.number)

pub word-requires : goal.word-requires
word-requires c =
    record {
      told = c.requires.told;
      i_bound = (
        omega arith,
        has_field _ _ _ _ _ _ c.requires.told 4 2 _ 3
            c.shape-bad.ensures.number c.if-bad-ne0.false (omega arith),
      );
    }

pub returns-then-kind-eq2 : goal.returns-then-kind-eq2
returns-then-kind-eq2 c =
    let lets = shape_lets _ 4 2 _ c.shape-bad.ensures.number c.if-bad-ne0.false in
    stops _ _ _ _ _ _ _ 28 4 _ c.refused.ensures (λ z. omega arith)
    (in_28 _ _ _ _ c.requires.fit _ _ c.requires.told
    c.args.line lets _ c.word.ensures.result_value _ c.kind_of-kind.ensures c.if-kind-eq2.true)

pub word-owner-requires : goal.word-owner-requires
word-owner-requires c =
    record {
      told = c.requires.told;
      i_bound = (
        omega arith,
        has_field _ _ _ _ _ _ c.requires.told 4 2 _ 1
            c.shape-bad.ensures.number c.if-bad-ne0.false (omega arith),
      );
    }

pub find-u-requires : goal.find-u-requires
find-u-requires c =
    record {
      ranked = c.requires.fit.units-ranked;
      wordy = c.word-owner.ensures.wordy;
    }

pub returns-then-units-u : goal.returns-then-units-u
returns-then-units-u c =
    let lets = shape_lets _ 4 2 _ c.shape-bad.ensures.number c.if-bad-ne0.false in
    stops _ _ _ _ _ _ _ 27 2 _ c.refused-then-units-u.ensures (λ z. omega arith)
    (in_27 _ _ _ _ c.requires.fit _ _ c.requires.told
    c.args.line lets _ c.word.ensures.result_value _ c.kind_of-kind.ensures c.if-kind-eq2.false _
    c.word-owner.ensures.result_value _ c.find-u.ensures c.if-units-u.true)

pub word-name-requires : goal.word-name-requires
word-name-requires c =
    record {
      told = c.requires.told;
      i_bound = (
        omega arith,
        has_field _ _ _ _ _ _ c.requires.told 4 2 _ 2
            c.shape-bad.ensures.number c.if-bad-ne0.false (omega arith),
      );
    }

pub overflow_cast-u : goal.overflow_cast-u
overflow_cast-u c =
    omega (
      arith,
      c.if-units-u.false,
      c.requires.fit.units-most,
    )

pub seek-input-requires : goal.seek-input-requires
seek-input-requires c =
    record {
      ranked = c.requires.fit.inputs-ranked;
      wordy = c.word-name.ensures.wordy;
    }

pub returns-then-input : goal.returns-then-input
returns-then-input c =
    let lets = shape_lets _ 4 2 _ c.shape-bad.ensures.number c.if-bad-ne0.false in
    stops _ _ _ _ _ _ _ 26 3 _ c.refused-then-input.ensures (λ z. omega arith)
    (in_26 _ _ _ _ c.requires.fit _ _ c.requires.told
    c.args.line lets _ c.word.ensures.result_value _ c.kind_of-kind.ensures c.if-kind-eq2.false _
    c.word-owner.ensures.result_value _ c.find-u.ensures c.if-units-u.false _
    c.word-name.ensures.result_value _ _ c.seek-input.ensures c.if-input.true)

pub returns-then-inputs-ge96 : goal.returns-then-inputs-ge96
returns-then-inputs-ge96 c =
    let lets = shape_lets _ 4 2 _ c.shape-bad.ensures.number c.if-bad-ne0.false in
    stops _ _ _ _ _ _ _ 29 0 _ c.refused-then-inputs-ge96.ensures (λ z. omega arith)
    (in_29 _ _ _ _ c.requires.fit _ _ c.requires.told
    c.args.line lets _ c.word.ensures.result_value _ c.kind_of-kind.ensures c.if-kind-eq2.false _
    c.word-owner.ensures.result_value _ c.find-u.ensures c.if-units-u.false _
    c.word-name.ensures.result_value _ _ c.seek-input.ensures c.if-input.false
    c.if-inputs-ge96.true)

pub named-requires : goal.named-requires
named-requires c = (
  omega (
    arith,
    c.if-units-u.false,
    c.requires.fit.units-most,
  ),
  omega (
    arith,
    (c.seek-input.ensures.free c.if-input.false).high,
    c.if-inputs-ge96.false,
  ),
)

pub returns : goal.returns
returns c =
    let lets = shape_lets _ 4 2 _ c.shape-bad.ensures.number c.if-bad-ne0.false in
    handed c.named.ensures (in_takes _ _ _ _ c.requires.fit _ _ c.requires.told c.args.line lets _
    c.word.ensures.result_value _ c.kind_of-kind.ensures c.if-kind-eq2.false _
    c.word-owner.ensures.result_value _ c.find-u.ensures c.if-units-u.false _
    c.word-name.ensures.result_value _ _ c.seek-input.ensures c.if-input.false
    c.if-inputs-ge96.false)
