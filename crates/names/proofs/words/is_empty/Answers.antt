-- A field is empty at the end of the text, at an LF and at a tab.
use native.Mathlib.Omega.{arith}
use Rattle.names.proofs.Walk.{empty-past, empty-lf, empty-tab}
use Rattle.names.proofs.words.is_empty.Goals as goal

pub returns-then-text-a : goal.returns-then-text-a
returns-then-text-a c = empty-past _ _ (omega arith)

pub returns-then-b-eq10 : goal.returns-then-b-eq10
returns-then-b-eq10 c = empty-lf _ _ (omega arith) c.if-b-eq10.true

pub returns : goal.returns
returns c = empty-tab _ _ (omega arith) c.if-b-eq10.false
