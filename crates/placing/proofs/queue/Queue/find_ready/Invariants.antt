-- Below c the bits are those of the calls that wait for none (`found_on`, `found-not`).
use mathlib.Core.Path.{◌≡◌}
use Rattle.placing.proofs.Found.{Found}
use Rattle.placing.proofs.queue.Queue.find_ready.Given as goal

abbrev pub invariant-loop-c : goal.invariant-loop-c
invariant-loop-c l =
    (l.self.waiting ≡ l.initial.self.waiting) × Found l.self.waiting l.c l.self.ready.words
