-- A queue whose counts fall.
use Rattle.std.specs.Prelude.{ℕ}
use Rattle.placing.specs.declared.queue.Queue.{Queue}
use Rattle.placing.specs.Lowered.{Lowered}

abbrev pub Lowers : (ℕ → ℕ) → Queue → Queue → Type 0
Lowers amount old new =
    Lowered amount old.waiting new.waiting old.ready.words new.ready.words
