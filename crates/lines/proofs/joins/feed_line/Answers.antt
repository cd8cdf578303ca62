-- One law for each return.
use native.Mathlib.Omega.{arith}
use Rattle.lines.proofs.Outcomes.{stops, shape_refused, handed}
use Rattle.lines.proofs.Counted.{shape_lets, has_field, feed-stops}
use Rattle.lines.proofs.Wired.{feed_27, feed_27_output, feed_32, feed_29, feed-takes}
use Rattle.lines.proofs.joins.feed_line.Goals as goal

pub returns-then-bad-ne0 : goal.returns-then-bad-ne0
returns-then-bad-ne0 c =
    shape_refused _ _ _ _ _ _ _ _ _ _ _ c.shape-bad.ensures c.if-bad-ne0.true
    (feed-stops _ _ c.args.line _ c.if-bad-ne0.true c.shape-bad.ensures.number)

pub port-input-requires : goal.port-input-requires
port-input-requires c =
    record {
      fit = c.requires.fit;
      told = c.requires.told;
      i_bound = (
        omega arith,
        has_field _ _ _ _ _ _ c.requires.told 4 3 _ 2 c.shape-bad.ensures.number
            c.if-bad-ne0.false (omega
            arith),
      );
      ranked = c.requires.fit.inputs-ranked;
    }

pub returns-then-input-ne0 : goal.returns-then-input-ne0
returns-then-input-ne0 c =
    let lets = shape_lets _ 4 3 _ c.shape-bad.ensures.number c.if-bad-ne0.false in
    stops _ _ _ _ _ _ _ 27 _ _ c.refused.ensures (λ z. omega arith)
    (feed_27 _ _ _ _ c.requires.fit _ c.args.line
    lets _ c.port-input.ensures c.if-input-ne0.true)

pub overflow_cast-u : goal.overflow_cast-u
overflow_cast-u c =
    omega (
      arith,
      (c.port-input.ensures.some c.if-input-ne0.false).0,
      c.requires.fit.units-most,
    )

pub word-name-requires : goal.word-name-requires
word-name-requires c =
    record {
      told = c.requires.told;
      i_bound = (
        omega arith,
        has_field _ _ _ _ _ _ c.requires.told 4 3 _ 3
            c.shape-bad.ensures.number c.if-bad-ne0.false (omega arith),
      );
    }

pub find-y-requires : goal.find-y-requires
find-y-requires c =
    record {
      ranked = c.requires.fit.outputs-ranked;
      wordy = c.word-name.ensures.wordy;
    }

pub returns-then-outputs-y : goal.returns-then-outputs-y
returns-then-outputs-y c =
    let lets = shape_lets _ 4 3 _ c.shape-bad.ensures.number c.if-bad-ne0.false in
    stops _ _ _ _ _ _ _ 27 4 _ c.refused-then-outputs-y.ensures (λ z. omega arith)
    (feed_27_output _ _ _ _ c.requires.fit
    _ c.args.line lets _ c.port-input.ensures c.if-input-ne0.false _
    c.word-name.ensures.result_value _ c.find-y.ensures c.if-outputs-y.true)

pub overflow_cast-x : goal.overflow_cast-x
overflow_cast-x c =
    omega (
      arith,
      (c.port-input.ensures.some c.if-input-ne0.false).1.0,
      c.requires.fit.inputs-most,
    )

pub overflow_cast-y : goal.overflow_cast-y
overflow_cast-y c =
    omega (
      arith,
      c.if-outputs-y.false,
      c.requires.fit.outputs-most,
    )

pub feed_of-k-requires : goal.feed_of-k-requires
feed_of-k-requires c = c.requires.fit.feeds-most

pub returns-then-k-feeds : goal.returns-then-k-feeds
returns-then-k-feeds c =
    let lets = shape_lets _ 4 3 _ c.shape-bad.ensures.number c.if-bad-ne0.false in
    stops _ _ _ _ _ _ _ 32 4 _ c.refused-then-k-feeds.ensures (λ z. omega arith)
    (feed_32 _ _ _ _ c.requires.fit _ c.args.line
    lets _ c.port-input.ensures c.if-input-ne0.false _ c.word-name.ensures.result_value _
    c.find-y.ensures c.if-outputs-y.false _ c.feed_of-k.ensures c.if-k-feeds.true)

pub returns-then-feeds-ge128 : goal.returns-then-feeds-ge128
returns-then-feeds-ge128 c =
    let lets = shape_lets _ 4 3 _ c.shape-bad.ensures.number c.if-bad-ne0.false in
    stops _ _ _ _ _ _ _ 29 0 _ c.refused-then-feeds-ge128.ensures (λ z. omega arith)
    (feed_29 _ _ _ _ c.requires.fit _ c.args.line
    lets _ c.port-input.ensures c.if-input-ne0.false _ c.word-name.ensures.result_value _
    c.find-y.ensures c.if-outputs-y.false _ c.feed_of-k.ensures c.if-k-feeds.false
    c.if-feeds-ge128.true)

pub wired-requires : goal.wired-requires
wired-requires c = (
  omega (
    arith,
    (c.port-input.ensures.some c.if-input-ne0.false).1.0,
    c.requires.fit.inputs-most,
  ),
  omega (
    arith,
    c.if-outputs-y.false,
    c.requires.fit.outputs-most,
  ),
)

pub returns : goal.returns
returns c =
    let lets = shape_lets _ 4 3 _ c.shape-bad.ensures.number c.if-bad-ne0.false in
    handed c.wired.ensures (feed-takes _ _ _ _ c.requires.fit _ c.args.line lets _
    c.port-input.ensures c.if-input-ne0.false _ c.word-name.ensures.result_value _
    c.find-y.ensures c.if-outputs-y.false _ c.feed_of-k.ensures c.if-k-feeds.false
    c.if-feeds-ge128.false)
