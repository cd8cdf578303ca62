-- One field more: the sixth is counted and not kept.
use borrow.Author.Tests.{le-leb, lt-leb}
use Rattle.fields.specs.Spans.{one_more, keep}
use Rattle.fields.proofs.Fields.with.Goals as goal

pub returns-then-n-ge5 : goal.returns-then-n-ge5
unfolding one_more keep
returns-then-n-ge5 c = rw (le-leb _ _ c.if-n-ge5.true)

pub returns : goal.returns
unfolding one_more keep
returns c = rw (lt-leb _ _ c.if-n-ge5.false)
