-- What a set gives is what its feeds hit and its own unit's step (`set_gives`).
use borrow.Author.Rules.{rules}
use native.Mathlib.Omega.{arith}
use mathlib.Core.Path.{◌≡◌, ap, ◌∙◌}
use Prim.Native.Nat.{◌*◌}
use lib.ListN.{length}
use Rattle.table.specs.Packed.{feeds}
use Rattle.table.specs.Layout.{long-pairs}
use Rattle.placing.proofs.Gives.{set_gives, set-gets, fed-fits}
use Rattle.placing.proofs.Lowering.{lowered-both, lowered-left}
use Rattle.placing.proofs.release.Noted.release_set.Goals as goal

pub lower_noted-requires : goal.lower_noted-requires
lower_noted-requires c =
    let t = c.args.self.table.bytes.now in
    let ok = c.args.self.table.sound in
    let u = c.unit_count-gets.ensures.value in
    let f = c.feed_count.ensures.value in
    let p = c.feed_pairs-pairs in
    let n : length p.result.now ≡ 2 * feeds t = ap length p.ensures ∙ long-pairs t ok.long in
    let gives = set_gives t ok c.args.input _ _ _ c.requires.input_bound u f p.ensures in
    λ k h. (
      search rules fits 20000 depth 12,
      (
        omega (arith, f, ok.counted.feeds-most),
        (
          omega arith,
          (
            omega arith,
            (
              record {
                callable = search rules;
                tells = λ i r l q. search rules;
                calls = λ i l q. fed-fits t ok _ _ _ u f p.ensures i l;
              },
              (
                set-gets t ok c.args.input _ p.result.now c.args.self.mask.now f p.ensures
                    c.args.self.joined,
                λ x. omega (arith, gives x, c.requires.enough x),
              ),
            ),
          ),
        ),
      ),
    )

pub release_unit-requires-clause-enough : goal.release_unit-requires-clause-enough
release_unit-requires-clause-enough c =
    lowered-left _ _ _ _ _ _ _
    (set_gives c.args.self.table.bytes.now c.args.self.table.sound c.args.input _ _ _
    c.requires.input_bound c.unit_count-gets.ensures.value c.feed_count.ensures.value
    c.feed_pairs-pairs.ensures) c.requires.enough c.lower_noted.ensures

pub returns : goal.returns
returns c =
    lowered-both _ _ _ _ _ _ _ _ _
    (set_gives c.args.self.table.bytes.now c.args.self.table.sound c.args.input _ _ _
    c.requires.input_bound c.unit_count-gets.ensures.value c.feed_count.ensures.value
    c.feed_pairs-pairs.ensures) c.lower_noted.ensures c.release_unit.ensures
