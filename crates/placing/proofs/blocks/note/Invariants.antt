-- Each turn notes one block more (`noting_on`).
use Rattle.placing.specs.Blocks.{Noting}
use Rattle.placing.proofs.blocks.note.Given as goal

abbrev pub invariant-loop-i : goal.invariant-loop-i
invariant-loop-i g l = Noting g.key l.size l.low l.i l.initial.notes l.notes
