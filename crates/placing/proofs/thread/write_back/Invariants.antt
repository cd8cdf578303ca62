-- Each turn writes one call before those written (`backing_on`).
use Rattle.placing.proofs.Threads.{Backing}
use Rattle.placing.proofs.thread.write_back.Given as goal

abbrev pub invariant-loop-n : goal.invariant-loop-n
invariant-loop-n l =
    Backing l.bytes l.fn.placed.count l.fn.placed.last l.initial.out l.n l.call l.out
