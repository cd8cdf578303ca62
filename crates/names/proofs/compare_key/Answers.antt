-- The owners are compared first, then the name and the word.
use mathlib.Core.Path.{◌∙◌}
use native.Mathlib.Omega.{arith}
use Rattle.notes.proofs.Ranks.{owner-before, owner-after, owner-same}
use Rattle.names.proofs.compare_key.Goals as goal

pub returns-then-own-owner : goal.returns-then-own-owner
returns-then-own-owner c = owner-before _ _ _ _ _ _ c.if-own-owner.true

pub returns-then-owner-own : goal.returns-then-owner-own
returns-then-owner-own c = owner-after _ _ _ _ _ _ c.if-owner-own.true

pub returns : goal.returns
returns c =
    c.compare.ensures ∙ owner-same _ _ _ _ _ _ (omega arith) _ c.wide.ensures
