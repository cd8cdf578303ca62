-- The refusal of all pairs is that of the pairs not yet passed, from pair k on.
use mathlib.Core.Path.{sym, ◌∙◌}
use Rattle.table.proofs.Checking.{feeds-end, feeds-unknown, feeds-again, feeds_on}
use Rattle.table.proofs.check.feeds_refusal.Goals as goal

pub returns-then-not-feed_known : goal.returns-then-not-feed_known
returns-then-not-feed_known c =
    sym
    (c.loop-k.invariant
    ∙ feeds-unknown _ _ _ _ _ c.loop-k-test.true (sym c.if-not-feed_known.ensures))

pub returns-then-feed_again : goal.returns-then-feed_again
returns-then-feed_again c =
    sym
    (c.loop-k.invariant
    ∙ feeds-again _ _ _ _ _ c.loop-k-test.true (sym c.if-not-feed_known.ensures)
    (sym c.if-feed_again.ensures))

pub loop-k-preserved : goal.loop-k-preserved
loop-k-preserved c =
    c.loop-k.invariant
    ∙ feeds_on _ _ _ _ _ c.loop-k-test.true (sym c.if-not-feed_known.ensures)
    (sym c.if-feed_again.ensures)

pub returns : goal.returns
returns c = sym (c.loop-k.invariant ∙ feeds-end _ _ _ _ _ c.loop-k-test.false)
