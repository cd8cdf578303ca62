-- The chain is true exactly where each byte is below the bound.
use borrow.Author.Rules.{rules}
use Rattle.table.proofs.Checking.{below_iff}
use Rattle.table.proofs.check.all_below.Goals as goal

pub returns : goal.returns
returns c = below_iff _ _ (search rules)
