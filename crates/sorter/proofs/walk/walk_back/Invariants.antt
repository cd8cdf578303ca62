-- The path holds what was seen, and the walk goes on from a call that remains (`trail_on`).
use Rattle.sorter.proofs.Trails.{Trail}
use Rattle.sorter.proofs.walk.walk_back.Given as goal

abbrev pub invariant-loop-seen : goal.invariant-loop-seen
invariant-loop-seen l = Trail l.lows.table.bytes.now l.path l.seen.words l.at l.call

abbrev pub decreases-loop-seen : goal.decreases-loop-seen
decreases-loop-seen l = l.at
