-- The words before word i hold none.
use Prim.Native.Nat.{◌*◌}
use Rattle.bits.specs.Laws.{Clear}
use Rattle.bits.proofs.Bits.lowest.Given as goal

abbrev pub invariant-loop-i : goal.invariant-loop-i
invariant-loop-i l = Clear l.self.words (64 * l.i)
