-- The first of the range that has no mark (`left_found`).
use Rattle.std.proofs.Common.{rules, tests, ◌≡◌, true, false}
use Rattle.std.proofs.lemmas.Iterator.{first_from_Range}
use Rattle.bits.specs.Bits.{has}
use Rattle.sorter.proofs.Trails.{left_found}
use Rattle.sorter.proofs.walk.lowest_left.Goals as goal

pub returns : goal.returns
returns c =
    let marked = has c.args.marks.now.words in
    left_found marked c.args.count _
    (first_from_Range _ _ _ _ (λ x. marked x ≡ false) (λ x. marked x ≡ true) c.find.ensures.ran
    (λ x q k. search (rules, tests)) (λ x q k. (search rules, search (rules, tests))))
