-- a sound table has a byte for each input
use Rattle.std.proofs.Common.{ap, ◌∙◌, length, arith}
use Rattle.table.specs.Layout.{long-sources}
use Rattle.judge.proofs.Run.set.Goals as goal

pub bounds-input_sources-input : goal.bounds-input_sources-input
bounds-input_sources-input c =
    omega (arith, ap length c.input_sources.ensures ∙ long-sources _ c.args.table.sound.long)
