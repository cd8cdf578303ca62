-- Each turn raises one count or none: `raise_hit` and `less_miss` carry the loop.
use Rattle.placing.specs.Row.{row_hits}
use Rattle.placing.specs.Less.{Less}
use Rattle.placing.proofs.waiting.raise.Given as goal

abbrev pub invariant-loop-i : goal.invariant-loop-i
invariant-loop-i g l = Less (row_hits g.places l.i) l.waiting l.initial.waiting
