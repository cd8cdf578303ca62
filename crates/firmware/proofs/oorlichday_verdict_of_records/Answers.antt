-- The place that the verdict on the records answers is small enough.
use Rattle.judging.proofs.Demand.{verdict_most}
use Rattle.firmware.proofs.oorlichday_verdict_of_records.Goals as goal

pub code-requires : goal.code-requires
code-requires c = rw c.verdict_of_records.ensures (verdict_most _ _)
