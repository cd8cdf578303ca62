-- What is written and what is to come are the cycle turned (`front_on`).
use Rattle.std.specs.Prelude.{length, drop}
use Rattle.search.specs.Front.{Fronting}
use Rattle.orders.specs.Turn.{turn}
use Rattle.sorter.proofs.show.write_turned.Given as goal

abbrev pub invariant-loop-place : goal.invariant-loop-place
invariant-loop-place l =
    Fronting (turn l.first l.cycle) (drop (length l.yielded) (turn l.first l.cycle)) l.initial.out
    l.out (length l.yielded)
