-- Each byte is its output's lowest among the feeds passed, X where none is (`gets_lower`).
use Rattle.std.specs.Prelude.{◌≡◌, ◌*◌, length, drop}
use Rattle.table.specs.Packed.{pairs}
use Rattle.bits.specs.Bits.{has}
use Rattle.sorter.proofs.Passes.{Gets}
use Rattle.sorter.proofs.lows.low_gets.Given as goal

abbrev pub invariant-loop-pair : goal.invariant-loop-pair
invariant-loop-pair l = record {
  size : l.pair-iterator.size ≡ 2;
  rest : l.pair-iterator.rest.now ≡ drop (2 * length l.yielded) (pairs l.table.bytes.now);
  gets : Gets l.table.bytes.now (has l.marks.words) l.lows (length l.yielded);
}
