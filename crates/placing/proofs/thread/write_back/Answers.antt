-- Each turn writes one call before those written (`backing_on`).
use native.Mathlib.Omega.{arith}
use Rattle.placing.proofs.Threads.{backing_call, backing_on, backing_ends}
use Rattle.placing.proofs.thread.write_back.Goals as goal

pub bounds-bytes-call : goal.bounds-bytes-call
bounds-bytes-call c =
    backing_call c.args.bytes.now c.args.placed.count c.args.placed.last c.args.out.now c.loop-n.n
    c.loop-n.call c.loop-n.out c.loop-n-test.true c.loop-n.invariant c.requires.count_in_bounds

pub loop-n-preserved : goal.loop-n-preserved
loop-n-preserved c =
    backing_on c.args.bytes.now c.args.placed.count c.args.placed.last c.args.out.now c.loop-n.n
    c.loop-n.call c.loop-n.out c.loop-n-test.true c.loop-n.invariant c.requires.count_in_bounds

pub returns : goal.returns
returns c =
    backing_ends c.args.bytes.now c.args.placed.count c.args.placed.last c.args.out.now c.loop-n.n
    c.loop-n.call c.loop-n.out (λ h. omega (arith, h, c.loop-n-test.false)) c.loop-n.invariant
