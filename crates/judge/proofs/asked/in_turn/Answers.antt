-- one law for each goal of the loop; the verdict is that on the bytes of the table
use Rattle.std.proofs.Common.{rules}
use Rattle.table.specs.Packed.{shape_of}
use Rattle.judge.proofs.Turns.{
  left-unsound,
  left_starts,
  left_on,
  left_off,
  left-ends,
  ends_short,
  ends-whole,
}
use Rattle.judge.proofs.asked.in_turn.Goals as goal

pub returns-in_err-table : goal.returns-in_err-table
returns-in_err-table g c =
    let number = g.A.Asked.number (shape_of c.args.table.now) in
    let e = left-unsound c.args.table.now number c.args.calls.now _ c.in_err-table.ensures.number in
    search rules

pub loop-place-init : goal.loop-place-init
loop-place-init g c = rw c.new-run.ensures (left_starts _ _ _ c.in_ok-table.table.sound)

pub returns-in-Err : goal.returns-in-Err
returns-in-Err g c =
    rw (← c.in_ok-table.ensures.bytes)
    (left_off _ _ _ c.in_ok-table.table.sound _ _ c.loop-place.invariant c.loop-place-test.true _
    c.index-calls-place.is _ c.number_in.ensures _ c.in-Err.ensures.value)

pub loop-place-preserved : goal.loop-place-preserved
loop-place-preserved g c =
    left_on _ _ _ c.in_ok-table.table.sound _ _ c.loop-place.invariant c.loop-place-test.true _
    c.index-calls-place.is _ c.number_in.ensures c.in_default.ensures.value _
    c.in_default.ensures.run_after

pub returns-then-place-call_count : goal.returns-then-place-call_count
returns-then-place-call_count g c =
    rw (← c.in_ok-table.ensures.bytes)
    (ends_short _ _ _ _ c.call_count.ensures.value
    (left-ends _ _ _ _ _ c.loop-place.invariant c.loop-place-test.false c.loop-place.auto.place-end)
    c.if-place-call_count.true)

pub returns : goal.returns
returns g c =
    rw (← c.in_ok-table.ensures.bytes)
    (ends-whole _ _ _ _ c.call_count.ensures.value
    (left-ends _ _ _ _ _ c.loop-place.invariant c.loop-place-test.false c.loop-place.auto.place-end)
    c.if-place-call_count.false)
