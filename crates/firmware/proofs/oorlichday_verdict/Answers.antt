-- The place that `verdict` answers is small enough.
use Rattle.judging.proofs.Demand.{verdict_most}
use Rattle.firmware.proofs.oorlichday_verdict.Goals as goal

pub code-requires : goal.code-requires
code-requires c = rw c.verdict.ensures.value (verdict_most _ _)
