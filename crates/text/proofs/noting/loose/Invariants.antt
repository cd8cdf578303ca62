-- The loop keeps that every input passed over is joined.
use Prim.Native.Nat.{ℕ, ◌-◌, ◌<◌, ◌≤◌}
use mathlib.Core.Bool.{not}
use lib.Dec.{T}
use Rattle.notes.specs.Notes.{is_loose}
use Rattle.text.proofs.noting.loose.Given as goal

abbrev pub invariant-loop-x : goal.invariant-loop-x
invariant-loop-x l = (l.x ≤ l.inputs) × ((k : ℕ) → k < l.x → T (not (is_loose l.slots k)))

abbrev pub decreases-loop-x : goal.decreases-loop-x
decreases-loop-x l = l.inputs - l.x
