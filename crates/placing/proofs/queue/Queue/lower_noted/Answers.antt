-- A block that is noted is walked place by place; one that is not has none that passes.
use native.Mathlib.Omega.{arith}
use mathlib.Core.Path.{◌≡◌}
use Prim.Native.Nat.{◌+◌, ◌<◌}
use Rattle.placing.proofs.Rows.{told_call, told_none}
use Rattle.placing.proofs.Hits.{lower_some}
use Rattle.placing.proofs.Lowering.{lowers_none, lowers_hit, lowers_miss}
use Rattle.placing.proofs.Blocked.{reach, blocks_miss}
use Rattle.placing.proofs.queue.Queue.lower_noted.Goals as goal
use Rattle.placing.proofs.queue.Queue.lower_noted.Goals.{
  in-Some,
  in_default,
  then-notes-low-eq1+else-loop-i-test,
  else-notes-low-eq1,
}

pub loop-block-init : goal.loop-block-init
loop-block-init g c =
    let e : reach c.args.size 0 c.args.count ≡ 0 = omega arith in
    rw e
    (lowers_none g.places.passes g.places.call c.args.self.now.waiting
    c.args.self.now.ready.words c.args.self.now.ready.whole)

pub loop-i-init : goal.loop-i-init
loop-i-init g c =
    let e : c.min-i.result ≡ reach c.args.size c.loop-block.block c.args.count = omega
    (arith, c.min-i.ensures) in
    rw e c.loop-block.invariant

pub lower-requires-clause-nonzero : goal.lower-requires-clause-nonzero
lower-requires-clause-nonzero g c =
    let few : c.loop-i.i < c.args.count = omega (arith, c.loop-i-test.true, c.min-i-end.ensures) in
    let (t, e) = told_call g.places c.loop-i.i c.in-Some.call
    (c.requires.1.1.1.1.0.tells c.loop-i.i _ few c.in-Some.ensures) in
    rw e
    (lower_some g.places.passes g.places.call c.loop-i.i c.args.count c.args.self.now.waiting
    c.loop-i.self.waiting few t c.requires.1.1.1.1.1.1 c.loop-i.invariant.falls)

pub loop-i-preserved : goal.loop-i-preserved
loop-i-preserved g c =
    let few : c.loop-i.i < c.args.count = omega (arith, c.loop-i-test.true, c.min-i-end.ensures) in
    elim c.match-call_at.branch [
      | in-Some w ↦
          let (t, e) = told_call g.places c.loop-i.i w.in-Some.call
          (c.requires.1.1.1.1.0.tells c.loop-i.i _ few w.in-Some.ensures) in
          rw w.self-is
          (lowers_hit g.places.passes g.places.call c.loop-i.i _ _ _ _ _ _ t c.loop-i.invariant
          (rw e at w.lower.ensures))
      | in_default w ↦
          rw w.self-is
          (lowers_miss g.places.passes g.places.call c.loop-i.i _ _ _ _
          (told_none g.places c.loop-i.i
          (c.requires.1.1.1.1.0.tells c.loop-i.i _ few w.in_default.ensures))
          c.loop-i.invariant)
    ]

pub loop-block-preserved : goal.loop-block-preserved
loop-block-preserved g c = elim c.if-notes-low-eq1.branch [
  | then-notes-low-eq1+else-loop-i-test w ↦
      let e : reach c.args.size (c.loop-block.block + 1) c.args.count ≡ w.loop-i.i = omega
      (arith, w.min-i.ensures, w.min-i-end.ensures, w.loop-i.auto, w.loop-i-test.false) in
      rw (w.self-is, e) w.loop-i.invariant
  | else-notes-low-eq1 w ↦
      rw w.self-is
      (blocks_miss g.places.passes g.places.call c.args.size c.args.low c.args.count
      c.loop-block.block c.args.notes _ _ _ _ c.requires.1.1.1.1.1.0
      w.if-notes-low-eq1.false c.loop-block.invariant)
]

pub returns : goal.returns
returns g c =
    let all : c.loop-block.block ≡ 4 = omega
    (arith, c.loop-block-test.false, c.loop-block.auto.block-end) in
    let e : c.args.count ≡ reach c.args.size c.loop-block.block c.args.count =
    rw all (omega (arith, c.requires.1.0)) in
    rw e c.loop-block.invariant
