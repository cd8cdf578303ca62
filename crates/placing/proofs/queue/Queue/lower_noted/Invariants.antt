-- A block that is noted is walked place by place; one that is not has none that passes.
use Rattle.placing.specs.Row.{row_hits}
use Rattle.placing.specs.Lowers.{Lowers}
use Rattle.placing.proofs.Blocked.{reach}
use Rattle.placing.proofs.queue.Queue.lower_noted.Given as goal

abbrev pub invariant-loop-block : goal.invariant-loop-block
invariant-loop-block g l =
    Lowers (row_hits g.places (reach l.size l.block l.count)) l.initial.self l.self

abbrev pub invariant-loop-i : goal.invariant-loop-i
invariant-loop-i g l = Lowers (row_hits g.places l.i) l.fn.self l.self
