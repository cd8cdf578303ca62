-- Below c the bits are those of the calls that wait for none (`found_on`, `found-not`).
use native.Mathlib.Omega.{arith}
use mathlib.Core.Path.{refl}
use Rattle.placing.proofs.Found.{found_starts, found_on, found-not}
use Rattle.placing.proofs.queue.Queue.find_ready.Goals as goal
use Rattle.placing.proofs.queue.Queue.find_ready.Goals.{then-self-c-eq0, else-self-c-eq0}

pub loop-c-init : goal.loop-c-init
loop-c-init c = (refl, found_starts _ _ c.args.self.now.ready.whole c.requires.ready_value)

pub loop-c-preserved : goal.loop-c-preserved
loop-c-preserved c = elim c.if-self-c-eq0.branch [
  | then-self-c-eq0 w ↦
      rw (w.self-is, w.put.ensures) (
        c.loop-c.invariant.0,
        found_on c.loop-c.self.waiting c.loop-c.self.ready.words c.loop-c.c
            (omega (arith, c.requires.count_bound, c.loop-c-test.true)) w.if-self-c-eq0.true
            c.loop-c.invariant.1,
      )
  | else-self-c-eq0 w ↦
      rw w.self-is (
        c.loop-c.invariant.0,
        found-not c.loop-c.self.waiting c.loop-c.self.ready.words c.loop-c.c
            w.if-self-c-eq0.false c.loop-c.invariant.1,
      )
]
