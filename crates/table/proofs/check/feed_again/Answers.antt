-- The chains ask each pair before, four in a turn and then the rest, whether it is pair k.
use borrow.Author.Rules.{rules}
use Prim.Native.Nat.{ℕ, ◌+◌, ◌*◌, ◌/◌, ◌%◌}
use mathlib.Core.Path.{refl, ◌∙◌}
use mathlib.Core.Bool.{Bool}
use mathlib.Core.List.{List}
use Rattle.table.specs.Check.{is_pair, feed_again}
use Rattle.table.specs.Packed.{pair_input, pair_output}
use Rattle.table.proofs.Checking.{of_four, some-fours}
use Rattle.table.proofs.Ranges.{some_by_any}
use Rattle.table.proofs.check.feed_again.Goals as goal

-- pair j is pair k
abbrev same : List ℕ → ℕ → ℕ → Bool
same ps k j = is_pair ps j (pair_input ps k) (pair_output ps k)

pub returns-then-any : goal.returns-then-any
unfolding feed_again
returns-then-any c =
    let q = same c.args.pairs.now c.args.k in
    let found = some_by_any (λ j. of_four q (4 * j)) (c.args.k / 4) c.any.ensures.ran refl
    (λ j p k. search rules) (λ j p k. search rules) in
    c.if-any.true ∙ (rw (← found, c.if-any.true) at (some-fours q c.args.k))

pub returns-else-any : goal.returns-else-any
unfolding feed_again
returns-else-any c =
    let q = same c.args.pairs.now c.args.k in
    let none = some_by_any (λ j. of_four q (4 * j)) (c.args.k / 4) c.any.ensures.ran refl
    (λ j p k. search rules) (λ j p k. search rules) in
    some_by_any (λ j. q (c.args.k / 4 * 4 + j)) (c.args.k % 4) c.any-else-any.ensures.ran refl
    (λ j p k. search rules) (λ j p k. search rules)
    ∙ (rw (← none, c.if-any.false) at (some-fours q c.args.k))
