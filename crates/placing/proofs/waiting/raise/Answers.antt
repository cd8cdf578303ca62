-- Each turn raises one count or none: `raise_hit` and `less_miss` carry the loop.
use Rattle.std.proofs.Common.{◌<◌, length, arith}
use Rattle.placing.proofs.Rows.{told_call, told_none}
use Rattle.placing.proofs.Hits.{less_none, raise_room, raise_hit, less_miss}
use Rattle.placing.proofs.waiting.raise.Goals as goal
use Rattle.placing.proofs.waiting.raise.Goals.{in-Some, in_default}

pub loop-i-init : goal.loop-i-init
loop-i-init g c = less_none _ _ _

pub overflow_add-waiting : goal.overflow_add-waiting
overflow_add-waiting g c =
    let (t, e) = told_call g.places c.loop-i.i c.in-Some.call
    (c.requires.1.0.tells c.loop-i.i _ c.loop-i-test.true c.in-Some.ensures) in
    rw e
    (record {
      fits = omega (
        arith,
        raise_room g.places.passes g.places.call c.loop-i.i c.args.count c.loop-i.waiting
            c.args.waiting.now c.loop-i-test.true t c.requires.1.1 c.loop-i.invariant,
      );
    })

pub loop-i-preserved : goal.loop-i-preserved
loop-i-preserved g c = elim c.match-call_at.branch [
  | in-Some w ↦
      let (t, e) = told_call g.places c.loop-i.i w.in-Some.call
      (c.requires.1.0.tells c.loop-i.i _ c.loop-i-test.true w.in-Some.ensures) in
      let long = c.match-call_at.array_long in
      let fits : g.places.call c.loop-i.i < length c.args.waiting.now = omega
      (arith, c.requires.1.0.calls c.loop-i.i c.loop-i-test.true t) in
      rw (w.waiting-is, e)
      (raise_hit g.places.passes g.places.call c.loop-i.i c.loop-i.waiting c.args.waiting.now t
      fits c.loop-i.invariant)
  | in_default w ↦
      rw w.waiting-is
      (less_miss g.places.passes g.places.call c.loop-i.i c.loop-i.waiting c.args.waiting.now
      (told_none g.places c.loop-i.i
      (c.requires.1.0.tells c.loop-i.i _ c.loop-i-test.true w.in_default.ensures))
      c.loop-i.invariant)
]
