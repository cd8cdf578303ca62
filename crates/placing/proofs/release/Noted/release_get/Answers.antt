-- What a get gives is what the row of sources hits (`hits_readers`); its blocks are noted.
use borrow.Author.Rules.{rules}
use native.Mathlib.Omega.{arith}
use mathlib.Core.Path.{◌≡◌, ap, ap₂, ◌∙◌}
use Prim.Native.Nat.{◌+◌}
use lib.ListN.{length}
use Rattle.table.specs.Packed.{inputs}
use Rattle.table.specs.Layout.{long-sources}
use Rattle.placing.proofs.Gives.{fits, hits_readers, get_sets}
use Rattle.placing.proofs.Lowering.{lowered_as}
use Rattle.placing.proofs.release.Noted.release_get.Goals as goal

pub lower_noted-requires : goal.lower_noted-requires
lower_noted-requires c =
    let t = c.args.self.table.bytes.now in
    let ok = c.args.self.table.sound in
    let e = ap₂ ◌+◌ c.unit_count.ensures.value c.output_count.ensures.value in
    let s = c.input_sources-sources in
    let n : length s.result.now ≡ inputs t = ap length s.ensures ∙ long-sources t ok.long in
    λ k h. (
      search rules fits 20000 depth 12,
      (
        omega (arith, n, ok.counted.inputs-most),
        (
          omega arith,
          (
            omega arith,
            (
              record {
                callable = search rules;
                tells = λ i r l p. search rules;
                calls = λ i l p. omega (arith, e, n, fits t ok);
              },
              (
                get_sets t ok c.args.output s.result.now c.args.self.mask.now s.ensures
                    c.args.self.joined,
                λ x. omega (
                  arith,
                  c.requires.enough x,
                  hits_readers t ok c.args.output _ _ c.requires.output_bound e s.ensures x,
                ),
              ),
            ),
          ),
        ),
      ),
    )

pub returns : goal.returns
returns c =
    let e = ap₂ ◌+◌ c.unit_count.ensures.value c.output_count.ensures.value in
    lowered_as _ _ _ _ _ _
    (hits_readers c.args.self.table.bytes.now c.args.self.table.sound c.args.output _ _
    c.requires.output_bound e c.input_sources-sources.ensures)
    c.lower_noted.ensures
