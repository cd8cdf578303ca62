-- Counts, ready calls and notes are as the loop asks (`waiting_starts`).
use Rattle.table.specs.Packed.{shape_of}
use Rattle.bits.specs.Laws.{empty-has}
use Rattle.placing.proofs.Zeros.{zeros}
use Rattle.placing.proofs.Stage.{waiting_starts}
use Rattle.placing.proofs.place.place.Goals as goal

pub fill-requires : goal.fill-requires
fill-requires c x = rw c.new.ensures.waiting (zeros 224 x)

pub find_ready-requires-clause-ready_value : goal.find_ready-requires-clause-ready_value
find_ready-requires-clause-ready_value c = rw c.new.ensures.ready empty-has

pub place_ready-requires : goal.place_ready-requires
place_ready-requires c =
    rw c.find_ready.ensures.waiting
    (waiting_starts (shape_of c.args.table.bytes.now) _ _ c.fill.array_long c.fill.ensures
    c.find_ready.new.self.ready.whole
    (rw c.unit_count.ensures.value at c.find_ready.ensures.by_index))
