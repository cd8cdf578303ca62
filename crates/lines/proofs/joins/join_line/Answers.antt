-- One law for each return.
use native.Mathlib.Omega.{arith}
use Rattle.lines.proofs.Outcomes.{stops, shape_refused, handed}
use Rattle.lines.proofs.Counted.{shape_lets, has_field, join-stops}
use Rattle.lines.proofs.Wired.{join_27_from, join_27_to, join_30, join-takes}
use Rattle.lines.proofs.joins.join_line.Goals as goal

pub returns-then-bad-ne0 : goal.returns-then-bad-ne0
returns-then-bad-ne0 c =
    shape_refused _ _ _ _ _ _ _ _ _ _ _ c.shape-bad.ensures c.if-bad-ne0.true
    (join-stops _ _ c.args.line _ c.if-bad-ne0.true c.shape-bad.ensures.number)

pub port-from-requires : goal.port-from-requires
port-from-requires c =
    record {
      fit = c.requires.fit;
      told = c.requires.told;
      i_bound = (
        omega arith,
        has_field _ _ _ _ _ _ c.requires.told 5 4 _ 2 c.shape-bad.ensures.number
            c.if-bad-ne0.false (omega
            arith),
      );
      ranked = c.requires.fit.outputs-ranked;
    }

pub returns-then-from-ne0 : goal.returns-then-from-ne0
returns-then-from-ne0 c =
    let lets = shape_lets _ 5 4 _ c.shape-bad.ensures.number c.if-bad-ne0.false in
    stops _ _ _ _ _ _ _ 27 _ _ c.refused.ensures (λ z. omega arith)
    (join_27_from _ _ _ _ c.requires.fit _
    c.args.line lets _ c.port-from.ensures c.if-from-ne0.true)

pub port-to-requires : goal.port-to-requires
port-to-requires c =
    record {
      fit = c.requires.fit;
      told = c.requires.told;
      i_bound = (
        omega arith,
        has_field _ _ _ _ _ _ c.requires.told 5 4 _ 4 c.shape-bad.ensures.number
            c.if-bad-ne0.false (omega
            arith),
      );
      ranked = c.requires.fit.inputs-ranked;
    }

pub returns-then-to-ne0 : goal.returns-then-to-ne0
returns-then-to-ne0 c =
    let lets = shape_lets _ 5 4 _ c.shape-bad.ensures.number c.if-bad-ne0.false in
    stops _ _ _ _ _ _ _ 27 _ _ c.refused-then-to-ne0.ensures (λ z. omega arith)
    (join_27_to _ _ _ _ c.requires.fit _
    c.args.line lets _ c.port-from.ensures c.if-from-ne0.false _ c.port-to.ensures
    c.if-to-ne0.true)

pub overflow_add-x : goal.overflow_add-x
overflow_add-x c =
    omega (
      arith,
      (c.port-to.ensures.some c.if-to-ne0.false).1.0,
      c.requires.fit.inputs-most,
    )

pub bounds-slots-x : goal.bounds-slots-x
bounds-slots-x c =
    omega (
      arith,
      (c.port-to.ensures.some c.if-to-ne0.false).1.0,
      c.requires.fit.inputs-most,
    )

pub returns-then-slots-x : goal.returns-then-slots-x
returns-then-slots-x c =
    let lets = shape_lets _ 5 4 _ c.shape-bad.ensures.number c.if-bad-ne0.false in
    stops _ _ _ _ _ _ _ 30 5 _ c.refused-then-slots-x.ensures (λ z. omega arith)
    (join_30 _ _ _ _ c.requires.fit _ c.args.line
    lets _ c.port-from.ensures c.if-from-ne0.false _ c.port-to.ensures c.if-to-ne0.false
    c.if-slots-x.true)

pub wired-requires : goal.wired-requires
wired-requires c = (
  omega (
    arith,
    (c.port-to.ensures.some c.if-to-ne0.false).1.0,
    c.requires.fit.inputs-most,
  ),
  omega (
    arith,
    (c.port-from.ensures.some
        c.if-from-ne0.false).1.0,
    c.requires.fit.outputs-most,
  ),
)

pub returns : goal.returns
returns c =
    let lets = shape_lets _ 5 4 _ c.shape-bad.ensures.number c.if-bad-ne0.false in
    handed c.wired.ensures (join-takes _ _ _ _ c.requires.fit _ c.args.line lets _
    c.port-from.ensures c.if-from-ne0.false _ c.port-to.ensures c.if-to-ne0.false
    c.if-slots-x.false)
