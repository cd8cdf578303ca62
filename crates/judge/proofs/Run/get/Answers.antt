-- a sound table has a byte for each output
use Rattle.std.proofs.Common.{ap, ◌∙◌, length, arith}
use Rattle.table.specs.Layout.{long_output_owners}
use Rattle.judge.proofs.Run.get.Goals as goal

pub bounds-output_owners-output : goal.bounds-output_owners-output
bounds-output_owners-output c =
    omega (arith, ap length c.output_owners.ensures ∙ long_output_owners _ c.args.table.sound.long)
