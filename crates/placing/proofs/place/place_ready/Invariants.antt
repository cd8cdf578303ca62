-- What is placed is the front of `placed_of`; `stage_on` carries the loop, `stage_stands` ends it.
use mathlib.Core.Path.{◌≡◌}
use lib.ListN.{length, take}
use Rattle.placing.specs.Placing.{placed_of}
use Rattle.placing.proofs.Stage.{Stage}
use Rattle.placing.proofs.place.place_ready.Given as goal

abbrev pub invariant-loop-count : goal.invariant-loop-count
invariant-loop-count l =
    let front = take l.count (placed_of l.noted.table.bytes.now) in
    (length front ≡ l.count)
    × Stage l.noted.table.bytes.now front l.queue.waiting l.queue.ready.words l.last
