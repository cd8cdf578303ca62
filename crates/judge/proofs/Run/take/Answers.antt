-- a call that is taken is below 224
use Rattle.std.proofs.Common.{sym}
use Rattle.judge.proofs.Taking.{taken-below}
use Rattle.judge.proofs.Run.take.Goals as goal

pub bounds-run-call : goal.bounds-run-call
bounds-run-call c = taken-below c.args.table.now c.args.self c.args.call (sym c.in-Ok.ensures)
