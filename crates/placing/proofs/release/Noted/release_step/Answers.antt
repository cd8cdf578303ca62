-- What a step gives is what its two rows hit (`step_gives`); the blocks of both are noted.
use borrow.Author.Rules.{rules}
use native.Mathlib.Omega.{arith}
use mathlib.Core.Path.{◌≡◌, refl, ap, ap₂, ◌∙◌}
use Prim.Native.Nat.{◌+◌}
use lib.ListN.{length}
use Rattle.table.specs.Packed.{units, outputs, inputs, input_owners, kinds}
use Rattle.table.specs.Layout.{long_output_owners, long_input_owners, long-kinds}
use Rattle.placing.proofs.Gives.{fits, step_gives, step_gets, step-sets}
use Rattle.placing.proofs.Lowering.{lowered-both, lowered-left}
use Rattle.placing.proofs.release.Noted.release_step.Goals as goal

pub lower_noted-requires : goal.lower_noted-requires
lower_noted-requires c =
    let t = c.args.self.table.bytes.now in
    let ok = c.args.self.table.sound in
    let u = c.args.unit in
    let e = c.unit_count-gets.ensures.value in
    let o = c.output_owners-outputs in
    let n : length o.result.now ≡ outputs t = ap length o.ensures ∙ long_output_owners t ok.long in
    λ k h. (
      search rules fits 20000 depth 12,
      (
        omega (arith, n, ok.counted.outputs-most),
        (
          omega arith,
          (
            omega arith,
            (
              record {
                callable = search rules;
                tells = λ i r l p. search rules;
                calls = λ i l p. omega (arith, e, n, fits t ok);
              },
              (
                step_gets t ok u o.result.now c.args.self.own.now o.ensures c.args.self.owned,
                λ x. omega (
                  arith,
                  c.requires.enough x,
                  step_gives t ok u c.unit_count-gets.result (units t + outputs t) o.result.now
                      (input_owners t) (kinds t) c.requires.unit_bound e refl o.ensures refl refl x,
                ),
              ),
            ),
          ),
        ),
      ),
    )

pub lower_noted-requires-2 : goal.lower_noted-requires-2
lower_noted-requires-2 c =
    let t = c.args.self.table.bytes.now in
    let ok = c.args.self.table.sound in
    let u = c.args.unit in
    let e = c.unit_count-gets.ensures.value in
    let f = ap₂ ◌+◌ e c.output_count.ensures.value in
    let o = c.output_owners-outputs in
    let w = c.input_owners-inputs in
    let d = c.input_kinds-kinds in
    let n : length w.result.now ≡ inputs t = ap length w.ensures ∙ long_input_owners t ok.long in
    let m : length d.result.now ≡ inputs t = ap length d.ensures ∙ long-kinds t ok.long in
    λ k h. (
      search rules fits 20000 depth 12,
      (
        omega (arith, n, ok.counted.inputs-most),
        (
          omega arith,
          (
            omega arith,
            (
              record {
                callable = search rules;
                tells = λ i r l p. search rules;
                calls = λ i l p. omega (arith, f, n, fits t ok);
              },
              (
                step-sets t ok u w.result.now d.result.now c.args.self.own.now w.ensures
                    c.args.self.owned,
                lowered-left _ _ _ _ _ _ _
                    (step_gives t ok u _ _ _ _ _ c.requires.unit_bound e f o.ensures w.ensures
                    d.ensures) c.requires.enough c.lower_noted.ensures,
              ),
            ),
          ),
        ),
      ),
    )

pub returns : goal.returns
returns c =
    let e = c.unit_count-gets.ensures.value in
    lowered-both _ _ _ _ _ _ _ _ _
    (step_gives c.args.self.table.bytes.now c.args.self.table.sound c.args.unit _ _ _ _ _
    c.requires.unit_bound e (ap₂ ◌+◌ e c.output_count.ensures.value)
    c.output_owners-outputs.ensures c.input_owners-inputs.ensures c.input_kinds-kinds.ensures)
    c.lower_noted.ensures c.lower_noted-2.ensures
