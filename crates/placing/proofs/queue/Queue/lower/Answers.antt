-- The call still waits (`lower_waits`), or is ready now (`lower_frees`).
use native.Mathlib.Omega.{arith}
use Rattle.placing.proofs.Lowering.{lower_waits, lower_frees}
use Rattle.placing.proofs.queue.Queue.lower.Goals as goal

pub returns-then-left-eq0 : goal.returns-then-left-eq0
returns-then-left-eq0 c =
    rw c.put.ensures
    (lower_frees c.args.self.now.waiting c.args.self.now.ready.words c.args.call (omega arith)
    c.requires.nonzero c.args.self.now.ready.whole (omega arith) c.if-left-eq0.true)

pub returns-else-left-eq0 : goal.returns-else-left-eq0
returns-else-left-eq0 c =
    lower_waits c.args.self.now.waiting c.args.self.now.ready.words c.args.call (omega arith)
    c.requires.nonzero c.args.self.now.ready.whole c.if-left-eq0.false
