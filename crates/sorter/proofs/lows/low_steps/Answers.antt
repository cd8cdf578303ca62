-- Each byte is its unit's lowest among the inputs passed, X where none is (`steps_here`).
use Rattle.std.proofs.Common.{sym, ap, subst, ◌∙◌, arith, ◌-◌, get_or, length, T, not}
use Rattle.search.specs.Truth.{says, denies}
use Rattle.table.specs.Layout.{long_input_owners, long-kinds}
use Rattle.bits.specs.Bits.{has}
use Rattle.sorter.proofs.Passes.{steps_start, steps_delayed, steps_done, steps_here}
use Rattle.sorter.proofs.Passes.{steps_end}
use Rattle.sorter.proofs.lows.low_steps.Goals as goal
use Rattle.sorter.proofs.lows.low_steps.Goals.{
  else-kinds-x-eq1-via-then-kinds-x-eq1+else-not-has,
  else-kinds-x-eq1-via-else-kinds-x-eq1,
}

pub loop-input-init : goal.loop-input-init
loop-input-init c =
    steps_start c.args.table.bytes.now c.args.table.sound (has c.args.marks.now.words) _
    c.input_count-inputs.ensures.value

pub bounds-kinds-x : goal.bounds-kinds-x
bounds-kinds-x c =
    omega (
      arith,
      ap length c.input_kinds-kinds.ensures ∙ long-kinds c.args.table.bytes.now
          c.args.table.sound.long,
    )

pub bounds-owners-x : goal.bounds-owners-x
bounds-owners-x c =
    omega (
      arith,
      ap length c.input_owners-owners.ensures ∙ long_input_owners c.args.table.bytes.now
          c.args.table.sound.long,
    )

pub loop-input-preserved-then-not-has : goal.loop-input-preserved-then-not-has
loop-input-preserved-then-not-has c =
    let x = c.loop-input.input - 1 in
    steps_here c.args.table.bytes.now c.args.table.sound (has c.args.marks.now.words)
    c.loop-input.lows c.loop-input.input c.loop-input-test.true c.loop-input.invariant _
    (ap (λ l. get_or l x 0) c.input_owners-owners.ensures)
    (sym (ap (λ l. get_or l x 0) c.input_kinds-kinds.ensures) ∙ c.if-kinds-x-eq1.true)
    (subst (λ n. T (not (has c.args.marks.now.words n))) c.set_of.ensures
    (denies c.has.ensures c.if-not-has.true))

pub loop-input-preserved : goal.loop-input-preserved
loop-input-preserved c =
    let t = c.args.table.bytes.now in
    let marked = has c.args.marks.now.words in
    elim c.else-kinds-x-eq1.branch [
      | else-kinds-x-eq1-via-then-kinds-x-eq1+else-not-has w ↦
          steps_done t c.args.table.sound marked c.loop-input.lows c.loop-input.input
          c.loop-input-test.true c.loop-input.invariant
          (subst (λ n. T (marked n)) w.set_of.ensures (says w.has.ensures w.if-not-has.false))
      | else-kinds-x-eq1-via-else-kinds-x-eq1 w ↦
          steps_delayed t c.args.table.sound marked c.loop-input.lows c.loop-input.input
          c.loop-input-test.true c.loop-input.invariant
          (λ e. w.if-kinds-x-eq1.false (ap (λ l. get_or l (c.loop-input.input - 1) 0)
          c.input_kinds-kinds.ensures ∙ e))
    ]

pub returns : goal.returns
returns c =
    steps_end c.args.table.bytes.now c.args.table.sound (has c.args.marks.now.words)
    c.loop-input.lows c.loop-input.input (omega arith) c.loop-input.invariant
