-- A table whose refusal is 0 is sound.
use mathlib.Core.Path.{sym}
use Rattle.table.proofs.Checked.{passed-sound}
use Rattle.table.proofs.sound.Table.new.Goals as goal

pub invariant_of-result : goal.invariant_of-result
invariant_of-result c =
    record { sound = passed-sound c.args.bytes.now (sym c.in_ok-refusal.ensures) }
