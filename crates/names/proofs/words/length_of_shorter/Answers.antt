-- One law for each return.
use Rattle.names.proofs.Stretches.{second-shorter, first-shorter}
use native.Mathlib.Omega.{arith}
use Rattle.names.proofs.words.length_of_shorter.Goals as goal

pub returns-then-q-most : goal.returns-then-q-most
returns-then-q-most c = second-shorter _ _ c.if-q-most.true

pub returns : goal.returns
returns c = first-shorter _ _ (omega arith)
