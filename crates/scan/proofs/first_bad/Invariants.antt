-- The loop keeps that every byte passed over is allowed.
use Prim.Native.Nat.{ℕ, ◌-◌, ◌<◌, ◌≤◌}
use mathlib.Core.Bool.{not}
use lib.ListN.{length, get_or}
use lib.Dec.{T}
use Rattle.grammar.specs.Words.{allowed}
use Rattle.scan.proofs.first_bad.Given as goal

abbrev pub invariant-loop-i : goal.invariant-loop-i
invariant-loop-i l = (l.i ≤ length l.text) × ((k : ℕ) → k < l.i → T
    (not (not (allowed (get_or l.text k 0)))))

abbrev pub decreases-loop-i : goal.decreases-loop-i
decreases-loop-i l = length l.text - l.i
