-- The place that `check` answers is small enough.
use Rattle.table.proofs.Checked.{place-most}
use Rattle.firmware.proofs.oorlichday_check.Goals as goal

pub code-requires : goal.code-requires
code-requires c = rw c.check.ensures (place-most _)
