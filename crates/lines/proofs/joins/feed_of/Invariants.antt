-- The loop keeps that no feed passed over is the one sought.
use Prim.Native.Nat.{ℕ, ◌-◌, ◌<◌, ◌≤◌}
use mathlib.Core.Bool.{not}
use lib.Dec.{T}
use Rattle.notes.specs.Notes.{is_fed}
use Rattle.lines.proofs.joins.feed_of.Given as goal

abbrev pub invariant-loop-k : goal.invariant-loop-k
invariant-loop-k l = (l.k ≤ l.feeds) × ((j : ℕ) → j < l.k → T (not (is_fed l.slots l.x l.y j)))

abbrev pub decreases-loop-k : goal.decreases-loop-k
decreases-loop-k l = l.feeds - l.k
