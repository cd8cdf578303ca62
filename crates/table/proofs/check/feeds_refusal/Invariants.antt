-- The refusal of all pairs is that of the pairs not yet passed, from pair k on.
use Prim.Native.Nat.{◌-◌, ◌/◌}
use mathlib.Core.Path.{◌≡◌}
use lib.ListN.{length}
use Rattle.table.specs.Check.{feeds_from}
use Rattle.table.proofs.check.feeds_refusal.Given as goal

abbrev pub invariant-loop-k : goal.invariant-loop-k
invariant-loop-k l =
    let f = length l.pairs / 2 in
    feeds_from l.outs l.ins l.pairs f 0 ≡ feeds_from l.outs l.ins l.pairs (f - l.k) l.k
