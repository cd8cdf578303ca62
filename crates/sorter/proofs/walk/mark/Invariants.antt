-- What is marked and what is to come on the thread are all its calls (`marking_on`).
use Prim.Native.Nat.{◌-◌}
use Rattle.sorter.proofs.Trails.{Marking}
use Rattle.sorter.proofs.walk.mark.Given as goal

abbrev pub invariant-loop : goal.invariant-loop
invariant-loop l =
    Marking l.bytes l.fn.placed.count l.fn.placed.last l.marks.words (l.fn.placed.count - l.counter)
    l.call
