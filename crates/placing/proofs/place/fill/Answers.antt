-- Five rules raise the counts from 0; their sum is `into` of every call (`filled`).
use borrow.Author.Rules.{rules}
use native.Mathlib.Omega.{arith}
use mathlib.Core.Path.{◌≡◌, ap, ap₂, ◌∙◌}
use Prim.Native.Nat.{◌+◌, ◌*◌}
use lib.ListN.{length}
use Rattle.calls.proofs.Givens.{row-once, hits-le}
use Rattle.table.specs.Packed.{units, inputs, feeds}
use Rattle.table.specs.Layout.{long-kinds, long_input_owners, long-pairs}
use Rattle.placing.specs.Less.{each, is_key, called, fed}
use Rattle.placing.proofs.Gives.{fits, fed-fits}
use Rattle.placing.proofs.Filled.{filled}
use Rattle.placing.proofs.place.fill.Goals as goal

pub raise-requires : goal.raise-requires
raise-requires c =
    let t = c.args.table.bytes.now in
    let ok = c.args.table.sound in
    let y = c.output_count-outputs.ensures.value in
    λ k h. (
      search rules fits 20000 depth 12,
      (
        record {
          callable = λ i l κs r p q u o. record {
            fits = omega (arith, o.ensures.0, y, fits t ok);
          };
          tells = λ i r l p. search rules;
          calls = λ i l p. omega (arith, y, fits t ok);
        },
        λ x. omega (
          arith,
          c.requires x,
          row-once each (units t) c.output_count-outputs.result x,
        ),
      ),
    )

pub raise-requires-2 : goal.raise-requires-2
raise-requires-2 c =
    let t = c.args.table.bytes.now in
    let ok = c.args.table.sound in
    let e = ap₂ ◌+◌ c.unit_count-gets.ensures.value c.output_count-outputs.ensures.value in
    let n = c.input_count-inputs.ensures.value in
    λ k h. (
      search rules fits 20000 depth 12,
      (
        record {
          callable = search rules;
          tells = λ i r l p. search rules;
          calls = λ i l p. omega (arith, e, n, fits t ok);
        },
        λ x. omega (
          arith,
          c.requires x,
          c.raise.ensures.less x,
          row-once each (units t) c.output_count-outputs.result x,
          row-once each (c.unit_count-gets.result + c.output_count-outputs.result)
              c.input_count-inputs.result x,
        ),
      ),
    )

pub raise-requires-3 : goal.raise-requires-3
raise-requires-3 c =
    let t = c.args.table.bytes.now in
    let ok = c.args.table.sound in
    let u = c.unit_count-gets.ensures.value in
    let f = c.feed_count.ensures.value in
    let p = c.feed_pairs-pairs.ensures in
    let n : length c.feed_pairs-pairs.result.now ≡ 2 * feeds t = ap length p ∙ long-pairs t ok.long
    in
    λ k h. (
      search rules fits 20000 depth 12,
      (
        record {
          callable = search rules;
          tells = λ i r l q. search rules;
          calls = λ i l q. fed-fits t ok _ _ _ u f p i l;
        },
        λ x. omega (
          arith,
          c.requires x,
          c.raise.ensures.less x,
          c.raise-2.ensures.less x,
          row-once each (units t) c.output_count-outputs.result x,
          row-once each (c.unit_count-gets.result + c.output_count-outputs.result)
              c.input_count-inputs.result x,
          hits-le (fed c.feed_pairs-pairs.result.now c.unit_count-gets.result)
              c.feed_count.result x each,
          f,
          ok.counted.feeds-most,
        ),
      ),
    )

pub raise-requires-4 : goal.raise-requires-4
raise-requires-4 c =
    let t = c.args.table.bytes.now in
    let ok = c.args.table.sound in
    let x = c.input_count-inputs.ensures.value in
    let d = c.input_kinds-kinds.ensures in
    let w = c.input_owners-owners.ensures in
    let m : length c.input_kinds-kinds.result.now ≡ inputs t = ap length d ∙ long-kinds t ok.long in
    let n : length c.input_owners-owners.result.now ≡ inputs t = ap length w
    ∙ long_input_owners t ok.long in
    λ k h. (
      search rules fits 20000 depth 12,
      (
        record {
          callable = search rules;
          tells = λ i r l p. search rules;
          calls = λ i l p. rw w
              (omega (arith, ok.wired.input-owned i (omega (arith, x)), fits t ok));
        },
        λ z. omega (
          arith,
          c.requires z,
          c.raise.ensures.less z,
          c.raise-2.ensures.less z,
          c.raise-3.ensures.less z,
          row-once each (units t) c.output_count-outputs.result z,
          row-once each (c.unit_count-gets.result + c.output_count-outputs.result)
              c.input_count-inputs.result z,
          hits-le (fed c.feed_pairs-pairs.result.now c.unit_count-gets.result)
              c.feed_count.result z each,
          c.feed_count.ensures.value,
          ok.counted.feeds-most,
          hits-le (called c.input_owners-owners.result.now) c.input_count-inputs.result z
              (is_key c.input_kinds-kinds.result.now 1),
          x,
          ok.counted.inputs-most,
        ),
      ),
    )

pub raise-requires-5 : goal.raise-requires-5
raise-requires-5 c =
    let t = c.args.table.bytes.now in
    let ok = c.args.table.sound in
    let x = c.input_count-inputs.ensures.value in
    let e = ap₂ ◌+◌ c.unit_count-gets.ensures.value c.output_count-outputs.ensures.value in
    let m : length c.input_kinds-kinds.result.now ≡ inputs t = ap length c.input_kinds-kinds.ensures
    ∙ long-kinds t ok.long in
    λ k h. (
      search rules fits 20000 depth 12,
      (
        record {
          callable = search rules;
          tells = λ i r l p. search rules;
          calls = λ i l p. omega (arith, e, x, fits t ok);
        },
        λ z. omega (
          arith,
          c.requires z,
          c.raise.ensures.less z,
          c.raise-2.ensures.less z,
          c.raise-3.ensures.less z,
          c.raise-4.ensures.less z,
          row-once each (units t) c.output_count-outputs.result z,
          row-once each (c.unit_count-gets.result + c.output_count-outputs.result)
              c.input_count-inputs.result z,
          hits-le (fed c.feed_pairs-pairs.result.now c.unit_count-gets.result)
              c.feed_count.result z each,
          c.feed_count.ensures.value,
          ok.counted.feeds-most,
          hits-le (called c.input_owners-owners.result.now) c.input_count-inputs.result z
              (is_key c.input_kinds-kinds.result.now 1),
          x,
          ok.counted.inputs-most,
          row-once (is_key c.input_kinds-kinds.result.now 0)
              (c.unit_count-gets.result + c.output_count-outputs.result)
              c.input_count-inputs.result z,
        ),
      ),
    )

pub returns : goal.returns
returns c x =
    filled c.args.table.bytes.now c.unit_count-gets.result
    (c.unit_count-gets.result + c.output_count-outputs.result) c.output_count-outputs.result
    c.input_count-inputs.result c.feed_count.result c.input_kinds-kinds.result.now
    c.input_owners-owners.result.now c.feed_pairs-pairs.result.now
    c.unit_count-gets.ensures.value c.output_count-outputs.ensures.value
    (ap₂ ◌+◌ c.unit_count-gets.ensures.value c.output_count-outputs.ensures.value)
    c.input_count-inputs.ensures.value c.feed_count.ensures.value c.input_kinds-kinds.ensures
    c.input_owners-owners.ensures c.feed_pairs-pairs.ensures x _
    (omega (
      arith,
      c.requires x,
      c.raise.ensures.less x,
      c.raise-2.ensures.less x,
      c.raise-3.ensures.less x,
      c.raise-4.ensures.less x,
      c.raise-5.ensures.less x,
    ))
