-- What is marked and what is to come on the thread are all its calls (`marking_on`).
use Prim.Native.Nat.{◌-◌, ◌+◌, suc}
use Rattle.std.proofs.Common.{◌≡◌, arith}
use Rattle.sorter.proofs.Trails.{marking_starts, marking_call, marking_on, marking_ends}
use Rattle.sorter.proofs.walk.mark.Goals as goal

pub loop-init : goal.loop-init
loop-init c =
    marking_starts c.args.bytes.now c.args.placed.count c.args.placed.last _ _ (omega arith)
    c.new.ensures

pub bounds-bytes-call : goal.bounds-bytes-call
bounds-bytes-call c =
    let count = c.args.placed.count in
    let next : count - c.loop.counter ≡ suc (count - (c.loop.counter + 1)) = omega arith in
    c.requires c.loop.call (marking_call _ _ _ _ _ _ _ next c.loop.invariant)

pub loop-preserved : goal.loop-preserved
loop-preserved c =
    let count = c.args.placed.count in
    let next : count - c.loop.counter ≡ suc (count - (c.loop.counter + 1)) = omega arith in
    let small = c.requires c.loop.call (marking_call _ _ _ _ _ _ _ next c.loop.invariant) in
    rw c.put.ensures
    (marking_on _ _ _ _ _ _ _ next c.loop.invariant c.loop.marks.whole small)

pub returns : goal.returns
returns c = marking_ends _ _ _ _ _ _ (omega arith) c.loop.invariant
