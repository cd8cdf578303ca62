-- Each byte is its unit's lowest among the inputs passed, X where none is (`steps_here`).
use Rattle.bits.specs.Bits.{has}
use Rattle.sorter.proofs.Passes.{Steps}
use Rattle.sorter.proofs.lows.low_steps.Given as goal

abbrev pub invariant-loop-input : goal.invariant-loop-input
invariant-loop-input l = Steps l.table.bytes.now (has l.marks.words) l.lows l.input
