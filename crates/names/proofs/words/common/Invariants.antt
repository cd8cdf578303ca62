-- The loop keeps that the bytes passed over are the same in both.
use Prim.Native.Nat.{ℕ, ◌-◌, ◌≤◌, ◌<◌}
use mathlib.Core.Path.{◌≡◌}
use mathlib.Core.Bool.{not}
use lib.Dec.{T}
use Rattle.names.specs.Alike.{differs, shorter}
use Rattle.names.proofs.words.common.Given as goal

abbrev pub invariant-loop-i : goal.invariant-loop-i
invariant-loop-i l = (l.most ≡ shorter l.p l.q) × ((l.i ≤ l.most) ×
    ((k : ℕ) → k < l.i → T (not (differs l.p l.q k))))

abbrev pub decreases-loop-i : goal.decreases-loop-i
decreases-loop-i l = l.most - l.i
