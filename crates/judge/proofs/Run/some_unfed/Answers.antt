-- the chain over the pairs of both halves of the feeds
use Rattle.std.proofs.Common.{refl, ◌∙◌, rules}
use Rattle.table.proofs.Ranges.{some_by_any}
use Rattle.judge.proofs.Scanned.{some_unfed-is}
use Rattle.judge.proofs.Run.some_unfed.Goals as goal

pub returns : goal.returns
returns c =
    some_by_any _ _ c.any.ensures.ran refl (λ k p e. search rules) (λ k p e. search rules)
    ∙ some_unfed-is _ c.args.table.sound _ _ _ c.unit_count.ensures.value
    c.output_count.ensures.value _ c.feed_pairs-pairs.ensures _
