-- The chain asks of each pair of the table whether it is of x to y.
use borrow.Author.Rules.{rules}
use mathlib.Core.Path.{refl}
use Rattle.calls.specs.Precedence.{feeds_to}
use Rattle.table.proofs.Ranges.{some_by_any}
use Rattle.calls.proofs.precedence.feeds_to.Goals as goal

pub returns : goal.returns
unfolding feeds_to
returns c =
    rw (← c.feed_pairs-pairs.ensures, ← c.feed_count.ensures.value)
    (some_by_any _ _ c.any.ensures.ran refl (λ k p e. search rules) (λ k p e. search rules))
