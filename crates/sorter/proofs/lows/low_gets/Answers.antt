-- Each byte is its output's lowest among the feeds passed, X where none is (`gets_lower`).
use Rattle.std.proofs.Common.{ap, subst, ◌∙◌, arith, length, T, not}
use Rattle.std.proofs.Common.{◌*◌, length-append, length-drop}
use Rattle.search.specs.Truth.{says, denies}
use Rattle.table.specs.Packed.{pairs, feeds}
use Rattle.table.specs.Layout.{long-pairs}
use Rattle.bits.specs.Bits.{has}
use Rattle.sorter.proofs.Passes.{pair_is, gets-start, gets-output, gets_higher, gets-done}
use Rattle.sorter.proofs.Passes.{gets_lower, gets-end}
use Rattle.sorter.proofs.lows.low_gets.Goals as goal
use Rattle.sorter.proofs.lows.low_gets.Goals.{
  else-input-lows-via-then-input-lows+else-not-has,
  else-input-lows-via-else-input-lows,
}

pub loop-pair-init : goal.loop-pair-init
loop-pair-init c =
    let t = c.args.table.bytes.now in
    let same = c.into_iter-pair-iterator.ensures.into_iter_gives in
    record {
      size = rw same c.chunks_exact-pair-items.ensures.size;
      rest = rw same (c.chunks_exact-pair-items.ensures.rest ∙ c.feed_pairs.ensures);
      gets = gets-start t c.args.table.sound (has c.args.marks.now.words) _
          c.input_count.ensures.value;
    }

pub bounds-lows-output : goal.bounds-lows-output
bounds-lows-output c =
    let t = c.args.table.bytes.now in
    let k = length c.loop-pair.yielded in
    let step = c.in-Some.ensures.steps in
    let pair = pair_is (pairs t) _ _ _ (feeds t) k (long-pairs t c.args.table.sound.long)
    c.loop-pair.invariant.rest step.1.0 (step.1.1 ∙ c.loop-pair.invariant.size) in
    rw pair.2
    (gets-output t c.args.table.sound (has c.args.marks.now.words) c.loop-pair.lows k pair.0
    c.loop-pair.invariant.gets)

pub loop-pair-preserved-then-not-has : goal.loop-pair-preserved-then-not-has
loop-pair-preserved-then-not-has c =
    let t = c.args.table.bytes.now in
    let k = length c.loop-pair.yielded in
    let step = c.in-Some.ensures.steps in
    let pair = pair_is (pairs t) _ _ _ (feeds t) k (long-pairs t c.args.table.sound.long)
    c.loop-pair.invariant.rest step.1.0 (step.1.1 ∙ c.loop-pair.invariant.size) in
    record {
      size = step.0 ∙ c.loop-pair.invariant.size;
      rest = rw length-append pair.3;
      gets = rw (length-append, pair.1, pair.2)
          (gets_lower t c.args.table.sound (has c.args.marks.now.words) c.loop-pair.lows k pair.0
          c.loop-pair.invariant.gets
          (rw (← pair.1, ← pair.2) c.if-input-lows.true)
          (rw (← pair.1)
          (subst (λ n. T (not (has c.args.marks.now.words n))) c.set_of.ensures
          (denies c.has.ensures c.if-not-has.true))));
    }

pub loop-pair-preserved : goal.loop-pair-preserved
loop-pair-preserved c =
    let t = c.args.table.bytes.now in
    let k = length c.loop-pair.yielded in
    let step = c.in-Some.ensures.steps in
    let pair = pair_is (pairs t) _ _ _ (feeds t) k (long-pairs t c.args.table.sound.long)
    c.loop-pair.invariant.rest step.1.0 (step.1.1 ∙ c.loop-pair.invariant.size) in
    record {
      size = step.0 ∙ c.loop-pair.invariant.size;
      rest = rw length-append pair.3;
      gets = rw length-append
          (elim c.else-input-lows.branch [
            | else-input-lows-via-then-input-lows+else-not-has w ↦
                gets-done t c.args.table.sound (has c.args.marks.now.words) c.loop-pair.lows k
                pair.0 c.loop-pair.invariant.gets
                (rw (← pair.1)
                (subst (λ n. T (has c.args.marks.now.words n)) w.set_of.ensures
                (says w.has.ensures w.if-not-has.false)))
            | else-input-lows-via-else-input-lows w ↦
                gets_higher t c.args.table.sound (has c.args.marks.now.words) c.loop-pair.lows k
                pair.0 c.loop-pair.invariant.gets (rw (← pair.1, ← pair.2) w.if-input-lows.false)
          ]);
    }

pub returns : goal.returns
returns c =
    let t = c.args.table.bytes.now in
    let step = c.in-None.ensures.steps in
    gets-end t c.args.table.sound (has c.args.marks.now.words) c.loop-pair.lows
    (length c.loop-pair.yielded)
    (omega (
      arith,
      step.1.0,
      c.loop-pair.invariant.size,
      ap length c.loop-pair.invariant.rest,
      length-drop (2 * length c.loop-pair.yielded) (pairs t),
      long-pairs t c.args.table.sound.long,
    ))
    c.loop-pair.invariant.gets
