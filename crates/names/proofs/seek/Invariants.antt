-- The loop keeps that the names below lo are before the word and those from hi on after it.
use Prim.Native.Nat.{◌-◌}
use Rattle.notes.specs.Ranks.{Between}
use Rattle.names.proofs.seek.Given as goal

abbrev pub invariant-loop-lo : goal.invariant-loop-lo
invariant-loop-lo l = Between l.text l.places l.slots l.base l.count l.owner l.word l.lo l.hi

abbrev pub decreases-loop-lo : goal.decreases-loop-lo
decreases-loop-lo l = l.hi - l.lo
