-- the verdict on the whole order is that on what is left of it, from the marks so far
use Rattle.table.specs.Packed.{shape_of}
use Rattle.judge.proofs.Turns.{Left}
use Rattle.judge.proofs.asked.in_turn.Given as goal

abbrev pub invariant-loop-place : goal.invariant-loop-place
invariant-loop-place g l =
    let t = l.table.bytes.now in
    Left t (g.A.Asked.number (shape_of t)) l.calls l.run.done l.place
